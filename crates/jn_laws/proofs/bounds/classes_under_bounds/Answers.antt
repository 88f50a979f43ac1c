use Rattle.jn_laws.proofs.Bounded.{classes_under_bounds}
use Rattle.jn_laws.proofs.bounds.classes_under_bounds.Goals as goal

pub returns : goal.returns
returns c = classes_under_bounds
