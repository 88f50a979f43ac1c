use Rattle.jn_base.proofs.SmallProofs.{joined_shown}
use Rattle.jn_base.proofs.examples.joined_members.Goals as goal

pub returns : goal.returns
returns c = joined_shown
