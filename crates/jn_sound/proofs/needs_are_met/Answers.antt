use Rattle.jn_sound.proofs.NeverStuck.{needs_are_met}
use Rattle.jn_sound.proofs.needs_are_met.Goals as goal

pub returns : goal.returns
returns c = needs_are_met
