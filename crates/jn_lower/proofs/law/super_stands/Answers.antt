use Rattle.jn_lower.proofs.Calling.{super_so}
use Rattle.jn_lower.proofs.law.super_stands.Goals as goal

pub returns : goal.returns
returns c = super_so
