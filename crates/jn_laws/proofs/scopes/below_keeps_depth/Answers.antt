use Rattle.jn_laws.proofs.MovedTypes.{below_keeps_depth}
use Rattle.jn_laws.proofs.scopes.below_keeps_depth.Goals as goal

pub returns : goal.returns
returns c = below_keeps_depth
