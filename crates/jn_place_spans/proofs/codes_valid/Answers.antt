use Rattle.jn_place_spans.proofs.Images.{codes_valid}
use Rattle.jn_place_spans.proofs.codes_valid.Goals as goal

pub returns : goal.returns
returns c = codes_valid
