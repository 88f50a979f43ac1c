use Rattle.jn_sem_rows.proofs.SlotsProof.{tagged_is}
use Rattle.jn_sem_rows.proofs.sharing_examples.one_class.Goals as goal

pub returns : goal.returns
returns c = tagged_is
