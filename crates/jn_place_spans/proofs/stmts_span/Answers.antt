use Rattle.jn_place_spans.proofs.Stmts.{stmts_span_all}
use Rattle.jn_place_spans.proofs.stmts_span.Goals as goal

pub returns : goal.returns
returns c = stmts_span_all
