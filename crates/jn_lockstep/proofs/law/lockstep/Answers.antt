use Rattle.jn_steps.specs.Reports.{OneOf}
use Rattle.jn_lockstep.proofs.Lockstep.{agree}
use Rattle.jn_lockstep.proofs.law.lockstep.Goals as goal

pub returns : goal.returns
returns g c rate from to shown move mshown halts = agree rate (OneOf from to) shown move mshown halts
