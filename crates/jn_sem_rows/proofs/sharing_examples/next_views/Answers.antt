use Rattle.jn_sem_rows.proofs.NextProof.{next_views}
use Rattle.jn_sem_rows.proofs.sharing_examples.next_views.Goals as goal

pub returns : goal.returns
returns c = next_views
