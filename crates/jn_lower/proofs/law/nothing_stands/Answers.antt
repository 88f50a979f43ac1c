use Rattle.jn_lower.proofs.Growing.{none}
use Rattle.jn_lower.proofs.law.nothing_stands.Goals as goal

pub returns : goal.returns
returns c = none
