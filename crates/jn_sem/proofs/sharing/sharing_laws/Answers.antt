use Rattle.jn_sem.proofs.SharedLaws.{sharing_laws}
use Rattle.jn_sem.proofs.sharing.sharing_laws.Goals as goal

pub returns : goal.returns
returns c = sharing_laws
