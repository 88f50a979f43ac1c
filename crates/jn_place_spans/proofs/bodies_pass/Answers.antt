use Rattle.jn_place_spans.proofs.Bodies.{bodies_pass}
use Rattle.jn_place_spans.proofs.bodies_pass.Goals as goal

pub returns : goal.returns
returns c = bodies_pass
