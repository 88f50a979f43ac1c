use Rattle.jn_base.proofs.SmallProofs.{cycle_shown}
use Rattle.jn_base.proofs.examples.cycle.Goals as goal

pub returns : goal.returns
returns c = cycle_shown
