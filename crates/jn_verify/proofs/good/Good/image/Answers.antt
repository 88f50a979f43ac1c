use Rattle.std.proofs.Common.{subst}
use Rattle.jn_code.specs.declared.image.Image.{Image}
use Rattle.jn_code.specs.Known.{IsSound}
use Rattle.jn_code.proofs.Sound.{sound}
use Rattle.jn_verify.proofs.good.Good.image.Goals as goal

pub returns-clause-sound : goal.returns-clause-sound
returns-clause-sound c = subst (λ (i : Image). IsSound i) c.self.view_is (sound c.self.inside.image c.self.invariant.0)
