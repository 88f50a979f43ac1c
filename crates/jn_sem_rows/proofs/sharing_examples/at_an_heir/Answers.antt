use Rattle.jn_sem_rows.proofs.HeirProof.{at_an_heir}
use Rattle.jn_sem_rows.proofs.sharing_examples.at_an_heir.Goals as goal

pub returns : goal.returns
returns c = at_an_heir
