use Rattle.jn_place_spans.proofs.Images.{operands_few}
use Rattle.jn_place_spans.proofs.operands_few.Goals as goal

pub returns : goal.returns
returns c = operands_few
