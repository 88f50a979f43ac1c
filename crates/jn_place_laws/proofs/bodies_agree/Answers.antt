use Rattle.jn_place_laws.proofs.Agree.{bodies_agree_so}
use Rattle.jn_place_laws.proofs.bodies_agree.Goals as goal

pub returns : goal.returns
returns c = bodies_agree_so
