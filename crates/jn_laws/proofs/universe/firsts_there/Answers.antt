use Rattle.jn_laws.proofs.Universes.{firsts_there}
use Rattle.jn_laws.proofs.universe.firsts_there.Goals as goal

pub returns : goal.returns
returns c = firsts_there
