use Rattle.jn_link.proofs.Joining.{lowered_have_shapes}
use Rattle.jn_link.proofs.law.lowered_have_shapes.Goals as goal

pub returns : goal.returns
returns c = lowered_have_shapes
