use Rattle.jn_link.proofs.Joining.{joined_stand}
use Rattle.jn_link.proofs.law.joined_stand.Goals as goal

pub returns : goal.returns
returns c = joined_stand
