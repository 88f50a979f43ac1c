use Rattle.std.proofs.Common.{◌∙◌}
use Rattle.jn_drive.proofs.Judging.{tree_shown, tree_checked}
use Rattle.jn_drive.proofs.job.answer_tree.Goals as goal

pub returns-in_ok-print_program-in-Show : goal.returns-in_ok-print_program-in-Show
returns-in_ok-print_program-in-Show c = tree_shown _ _ _ c.in-Show.is (c.from_vec.ensures ∙ c.in_ok-print_program-in-Show.ensures.text)

pub returns-in-Check : goal.returns-in-Check
returns-in-Check c = tree_checked _ _ _ c.in-Check.is c.checked.ensures
