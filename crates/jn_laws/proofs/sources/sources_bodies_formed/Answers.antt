use Rattle.jn_laws.proofs.SpelledBodies.{sources_bodies_formed}
use Rattle.jn_laws.proofs.sources.sources_bodies_formed.Goals as goal

pub returns : goal.returns
returns c = sources_bodies_formed
