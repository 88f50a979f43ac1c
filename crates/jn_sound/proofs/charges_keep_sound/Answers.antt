use Rattle.jn_sound.proofs.Theorem.{charges_keep}
use Rattle.jn_sound.proofs.charges_keep_sound.Goals as goal

pub returns : goal.returns
returns c = charges_keep
