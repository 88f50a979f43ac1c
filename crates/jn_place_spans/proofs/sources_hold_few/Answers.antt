use Rattle.jn_place_spans.proofs.FewOperands.{sources_hold_few}
use Rattle.jn_place_spans.proofs.sources_hold_few.Goals as goal

pub returns : goal.returns
returns c = sources_hold_few
