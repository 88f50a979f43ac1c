use Rattle.jn_lower.proofs.Composing.{if_so}
use Rattle.jn_lower.proofs.law.if_stands.Goals as goal

pub returns : goal.returns
returns c = if_so
