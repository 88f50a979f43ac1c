use Rattle.jn_lower.proofs.Composing.{deciding_so}
use Rattle.jn_lower.proofs.law.deciding_stands.Goals as goal

pub returns : goal.returns
returns c = deciding_so
