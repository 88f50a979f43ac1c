use Rattle.std.proofs.Common.{◌≡◌, drop, map}
use Rattle.jn_base.specs.Forms.{all_of, of_param}
use Rattle.jn_base.specs.FormTests.{has}
use Rattle.jn_base.proofs.forms.in_params.Given as goal

abbrev pub invariant-loop-p : goal.invariant-loop-p
invariant-loop-p l = has l.asked (all_of (map of_param (drop l.p-index l.params))) ≡ has l.asked (all_of (map of_param l.params))
