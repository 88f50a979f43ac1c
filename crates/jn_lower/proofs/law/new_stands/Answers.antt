use Rattle.jn_lower.proofs.Calling.{new_so}
use Rattle.jn_lower.proofs.law.new_stands.Goals as goal

pub returns : goal.returns
returns c = new_so
