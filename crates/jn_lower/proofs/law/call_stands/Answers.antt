use Rattle.jn_lower.proofs.Calling.{call_so}
use Rattle.jn_lower.proofs.law.call_stands.Goals as goal

pub returns : goal.returns
returns c = call_so
