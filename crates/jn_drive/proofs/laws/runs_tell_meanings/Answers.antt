use Rattle.jn_drive.proofs.Meanings.{runs_tell_meanings}
use Rattle.jn_drive.proofs.laws.runs_tell_meanings.Goals as goal

pub returns : goal.returns
returns c = runs_tell_meanings
