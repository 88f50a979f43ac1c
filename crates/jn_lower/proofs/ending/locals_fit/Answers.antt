use Rattle.jn_lower.proofs.Finishing.{locals_fit}
use Rattle.jn_lower.proofs.ending.locals_fit.Goals as goal

pub returns : goal.returns
returns c = locals_fit
