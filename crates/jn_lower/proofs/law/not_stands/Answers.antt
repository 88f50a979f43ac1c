use Rattle.jn_lower.proofs.Composing.{not_so}
use Rattle.jn_lower.proofs.law.not_stands.Goals as goal

pub returns : goal.returns
returns c = not_so
