use Rattle.jn_lower.proofs.Composing.{strict_so}
use Rattle.jn_lower.proofs.law.strict_stands.Goals as goal

pub returns : goal.returns
returns c = strict_so
