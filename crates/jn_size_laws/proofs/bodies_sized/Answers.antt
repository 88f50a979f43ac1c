use Rattle.jn_size_laws.proofs.Bytes.{bodies_sized}
use Rattle.jn_size_laws.proofs.bodies_sized.Goals as goal

pub returns : goal.returns
returns x = bodies_sized
