use Rattle.jn_sem.proofs.FieldAnchors.{fields_pass}
use Rattle.jn_sem.proofs.sharing.fields_pass.Goals as goal

pub returns : goal.returns
returns c = fields_pass
