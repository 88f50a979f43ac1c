use Rattle.jn_base.proofs.SmallProofs.{mixed_shown}
use Rattle.jn_base.proofs.examples.two_kinds.Goals as goal

pub returns : goal.returns
returns c = mixed_shown
