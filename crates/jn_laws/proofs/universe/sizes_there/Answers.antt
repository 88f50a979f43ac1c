use Rattle.jn_laws.proofs.Universes.{sizes_there}
use Rattle.jn_laws.proofs.universe.sizes_there.Goals as goal

pub returns : goal.returns
returns c = sizes_there
