use Rattle.jn_lower.proofs.Statements.{return_so}
use Rattle.jn_lower.proofs.law.return_stands.Goals as goal

pub returns : goal.returns
returns c = return_so
