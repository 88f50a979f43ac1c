use Rattle.jn_laws.proofs.Universes.{slots_there}
use Rattle.jn_laws.proofs.universe.slots_there.Goals as goal

pub returns : goal.returns
returns c = slots_there
