use Rattle.jn_lower.proofs.Composing.{chain_so}
use Rattle.jn_lower.proofs.law.chain_stands.Goals as goal

pub returns : goal.returns
returns c = chain_so
