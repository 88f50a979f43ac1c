use Rattle.jn_place_spans.proofs.Untyped.{exprs_stand}
use Rattle.jn_place_spans.proofs.exprs_stand.Goals as goal

pub returns : goal.returns
returns c = exprs_stand
