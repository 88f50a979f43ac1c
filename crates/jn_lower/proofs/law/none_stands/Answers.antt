use Rattle.jn_lower.proofs.Statements.{none_so}
use Rattle.jn_lower.proofs.law.none_stands.Goals as goal

pub returns : goal.returns
returns c = none_so
