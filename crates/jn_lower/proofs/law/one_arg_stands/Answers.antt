use Rattle.jn_lower.proofs.Calling.{one_arg_so}
use Rattle.jn_lower.proofs.law.one_arg_stands.Goals as goal

pub returns : goal.returns
returns c = one_arg_so
