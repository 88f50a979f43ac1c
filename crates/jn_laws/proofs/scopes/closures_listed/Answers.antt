use Rattle.jn_laws.proofs.RootClosures.{closures_listed}
use Rattle.jn_laws.proofs.scopes.closures_listed.Goals as goal

pub returns : goal.returns
returns c = closures_listed
