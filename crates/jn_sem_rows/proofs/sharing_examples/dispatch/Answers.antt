use Rattle.jn_sem_rows.proofs.ViewsProof.{dispatch_rows}
use Rattle.jn_sem_rows.proofs.sharing_examples.dispatch.Goals as goal

pub returns : goal.returns
returns c = dispatch_rows
