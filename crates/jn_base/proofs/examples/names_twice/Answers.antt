use Rattle.jn_base.proofs.DuplicatesProof.{twice_shown}
use Rattle.jn_base.proofs.examples.names_twice.Goals as goal

pub returns : goal.returns
returns c = twice_shown
