use Rattle.std.proofs.Common.{refl}
use Rattle.jn_lower.proofs.Seams.{on_ok}
use Rattle.jn_lower.proofs.walk.push.Goals as goal

pub returns : goal.returns
returns c = on_ok c.push.result (λ a. record { adds = a; marks = refl; last = refl }) c.push.ensures.ok
