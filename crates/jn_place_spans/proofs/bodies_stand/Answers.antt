use Rattle.jn_place_spans.proofs.UntypedStmts.{bodies_stand}
use Rattle.jn_place_spans.proofs.bodies_stand.Goals as goal

pub returns : goal.returns
returns c = bodies_stand
