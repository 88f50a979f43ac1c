use Rattle.jn_sound.proofs.NeverStuck.{never_stuck}
use Rattle.jn_sound.proofs.never_stuck.Goals as goal

pub returns : goal.returns
returns c = never_stuck
