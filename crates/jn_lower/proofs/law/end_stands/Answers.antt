use Rattle.jn_lower.proofs.Statements.{end_so}
use Rattle.jn_lower.proofs.law.end_stands.Goals as goal

pub returns : goal.returns
returns c = end_so
