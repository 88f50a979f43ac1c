use Rattle.jn_lower.proofs.Calling.{bare_super_so}
use Rattle.jn_lower.proofs.law.bare_super_stands.Goals as goal

pub returns : goal.returns
returns c = bare_super_so
