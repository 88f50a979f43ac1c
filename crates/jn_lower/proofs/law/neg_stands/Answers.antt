use Rattle.jn_lower.proofs.Composing.{neg_so}
use Rattle.jn_lower.proofs.law.neg_stands.Goals as goal

pub returns : goal.returns
returns c = neg_so
