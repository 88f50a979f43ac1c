use Rattle.jn_place_laws.proofs.Laws.{callees_have_shapes_so}
use Rattle.jn_place_laws.proofs.callees_have_shapes.Goals as goal

pub returns : goal.returns
returns c = callees_have_shapes_so
