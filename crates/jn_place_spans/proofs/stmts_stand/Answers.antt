use Rattle.jn_place_spans.proofs.UntypedStmts.{stmts_stand_all}
use Rattle.jn_place_spans.proofs.stmts_stand.Goals as goal

pub returns : goal.returns
returns c = stmts_stand_all
