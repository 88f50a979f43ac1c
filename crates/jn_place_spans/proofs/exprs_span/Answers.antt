use Rattle.jn_place_spans.proofs.Exprs.{exprs_span}
use Rattle.jn_place_spans.proofs.exprs_span.Goals as goal

pub returns : goal.returns
returns x = exprs_span
