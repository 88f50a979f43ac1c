use Rattle.jn_drive.specs.Answer.{Judges}
use Rattle.jn_drive.proofs.Judging.{spelled, text_judged, within_limits}
use Rattle.jn_drive.proofs.Building.{handed}
use Rattle.jn_drive.proofs.job.judge.Goals as goal

pub returns-in_err-program : goal.returns-in_err-program
returns-in_err-program c =
    handed c.from_residual.result c.in_err-program.field-0.0 c.from_residual.ensures.1 (Judges c.args.kind c.args.source.now) (text_judged c.args.kind c.args.source.now c.in_err-program.field-0.0 c.in_err-program.ensures)

pub answer_tree-requires : goal.answer_tree-requires
answer_tree-requires c = within_limits _ _ c.in_ok-program.ensures

pub returns : goal.returns
returns c = spelled _ _ _ c.in_ok-program.ensures _ c.answer_tree.ensures
