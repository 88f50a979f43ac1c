use Rattle.jn_code.proofs.Sound.{sound}
use Rattle.jn_code.proofs.law.valid_is_sound.Goals as goal

pub returns : goal.returns
returns c = sound
