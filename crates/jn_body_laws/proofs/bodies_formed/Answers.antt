use Rattle.jn_body_laws.proofs.Formed.{bodies_formed}
use Rattle.jn_body_laws.proofs.bodies_formed.Goals as goal

pub returns : goal.returns
returns c = bodies_formed
