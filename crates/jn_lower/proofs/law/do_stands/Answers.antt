use Rattle.jn_lower.proofs.Statements.{do_so}
use Rattle.jn_lower.proofs.law.do_stands.Goals as goal

pub returns : goal.returns
returns c = do_so
