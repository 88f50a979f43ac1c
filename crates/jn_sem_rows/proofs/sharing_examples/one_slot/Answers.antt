use Rattle.jn_sem_rows.proofs.LinkedProof.{linked_is}
use Rattle.jn_sem_rows.proofs.sharing_examples.one_slot.Goals as goal

pub returns : goal.returns
returns c = linked_is
