use Rattle.jn_laws.proofs.MovedTypes.{moved_types_fit}
use Rattle.jn_laws.proofs.scopes.moved_types_fit.Goals as goal

pub returns : goal.returns
returns c = moved_types_fit
