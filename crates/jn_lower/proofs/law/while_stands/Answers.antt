use Rattle.jn_lower.proofs.Composing.{while_so}
use Rattle.jn_lower.proofs.law.while_stands.Goals as goal

pub returns : goal.returns
returns c = while_so
