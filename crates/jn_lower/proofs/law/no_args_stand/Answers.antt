use Rattle.jn_lower.proofs.Calling.{no_args_so}
use Rattle.jn_lower.proofs.law.no_args_stand.Goals as goal

pub returns : goal.returns
returns c = no_args_so
