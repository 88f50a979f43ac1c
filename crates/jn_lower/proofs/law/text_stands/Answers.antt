use Rattle.jn_lower.proofs.Statements.{text_so}
use Rattle.jn_lower.proofs.law.text_stands.Goals as goal

pub returns : goal.returns
returns c = text_so
