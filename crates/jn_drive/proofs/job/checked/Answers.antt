use Rattle.jn_drive.specs.declared.words.SourceJob.TheVariants.{Check}
use Rattle.jn_drive.specs.Answer.{AnswersTree}
use Rattle.jn_drive.proofs.Judging.{tree_passed, tree_halted}
use Rattle.jn_drive.proofs.Building.{handed}
use Rattle.jn_drive.proofs.job.checked.Goals as goal

pub returns-in_err-accepted : goal.returns-in_err-accepted
returns-in_err-accepted c =
    handed c.from_residual.result c.in_err-accepted.field-0.0 c.from_residual.ensures.1 (AnswersTree c.args.program.now Check) (tree_halted c.args.program.now c.in_err-accepted.field-0.0 c.in_err-accepted.ensures)

pub returns : goal.returns
returns c = tree_passed c.args.program.now _ c.new.ensures c.in_ok-accepted.ensures.0
