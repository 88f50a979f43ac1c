use Rattle.jn_drive.proofs.ShownAgain.{shown_again}
use Rattle.jn_drive.proofs.laws.shown_again.Goals as goal

pub returns : goal.returns
returns c p bytes is short = shown_again p bytes is short
