use Rattle.jn_drive.proofs.Meanings.{execs_tell_meanings}
use Rattle.jn_drive.proofs.laws.execs_tell_meanings.Goals as goal

pub returns : goal.returns
returns c = execs_tell_meanings
