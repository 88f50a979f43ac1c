use Rattle.jn_lower.proofs.Holding.{assign_so}
use Rattle.jn_lower.proofs.law.assign_stands.Goals as goal

pub returns : goal.returns
returns c = assign_so
