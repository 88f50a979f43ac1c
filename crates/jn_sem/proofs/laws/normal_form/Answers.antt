use Rattle.jn_sem.proofs.Normals.{normal_ends}
use Rattle.jn_sem.proofs.laws.normal_form.Goals as goal

pub returns : goal.returns
returns c = normal_ends
