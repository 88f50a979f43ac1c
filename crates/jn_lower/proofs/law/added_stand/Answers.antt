use Rattle.jn_lower.proofs.Growing.{added}
use Rattle.jn_lower.proofs.law.added_stand.Goals as goal

pub returns : goal.returns
returns c = added
