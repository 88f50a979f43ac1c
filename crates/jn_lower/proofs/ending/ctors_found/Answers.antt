use Rattle.jn_lower.proofs.CtorCodes.{ctors_found}
use Rattle.jn_lower.proofs.ending.ctors_found.Goals as goal

pub returns : goal.returns
returns c = ctors_found
