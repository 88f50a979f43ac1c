use Rattle.rows_exprs.proofs.Parts.{within_limits}
use Rattle.rows_exprs.proofs.typing.answer.Goals as goal

pub answer_in-requires : goal.answer_in-requires
answer_in-requires c = within_limits _ _ c.in-Ok.ensures.found
