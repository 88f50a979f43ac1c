use Rattle.std.proofs.Common.{◌≡◌, drop, map}
use Rattle.jn_base.specs.Forms.{all_of, of_constraint}
use Rattle.jn_base.specs.FormTests.{has}
use Rattle.jn_base.proofs.forms.in_constraints.Given as goal

abbrev pub invariant-loop-c : goal.invariant-loop-c
invariant-loop-c l = has l.asked (all_of (map of_constraint (drop l.c-index l.constraints))) ≡ has l.asked (all_of (map of_constraint l.constraints))
