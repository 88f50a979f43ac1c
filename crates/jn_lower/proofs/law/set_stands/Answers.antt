use Rattle.jn_lower.proofs.Holding.{set_so}
use Rattle.jn_lower.proofs.law.set_stands.Goals as goal

pub returns : goal.returns
returns c = set_so
