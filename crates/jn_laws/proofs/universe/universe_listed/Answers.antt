use Rattle.jn_laws.proofs.Universes.{universe_listed}
use Rattle.jn_laws.proofs.universe.universe_listed.Goals as goal

pub returns : goal.returns
returns c = universe_listed
