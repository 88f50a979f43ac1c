use Rattle.jn_sem_rows.proofs.SlotsProof.{two}
use Rattle.jn_sem_rows.proofs.sharing_examples.two_slots.Goals as goal

pub returns : goal.returns
returns c = two
