use Rattle.jn_lower.proofs.Composing.{view_so}
use Rattle.jn_lower.proofs.law.view_stands.Goals as goal

pub returns : goal.returns
returns c = view_so
