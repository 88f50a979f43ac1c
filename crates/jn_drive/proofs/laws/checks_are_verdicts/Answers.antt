use Rattle.jn_drive.proofs.Meanings.{checks_are_verdicts}
use Rattle.jn_drive.proofs.laws.checks_are_verdicts.Goals as goal

pub returns : goal.returns
returns c = checks_are_verdicts
