use Rattle.jn_lower.proofs.Holding.{local_so}
use Rattle.jn_lower.proofs.law.local_stands.Goals as goal

pub returns : goal.returns
returns c = local_so
