use Rattle.std.proofs.Common.{◌≡◌, drop, map}
use Rattle.jn_base.specs.Forms.{all_of, of_stmt}
use Rattle.jn_base.specs.FormTests.{has}
use Rattle.jn_base.proofs.forms.+stmt_forms.Given as goal

abbrev pub invariant-in_body-loop-s : goal.invariant-in_body-loop-s
invariant-in_body-loop-s l = has l.asked (all_of (map of_stmt (drop l.s-index l.body))) ≡ has l.asked (all_of (map of_stmt l.body))
