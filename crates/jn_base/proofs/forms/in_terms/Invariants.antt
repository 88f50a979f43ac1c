use Rattle.std.proofs.Common.{◌≡◌, drop, map}
use Rattle.jn_base.specs.Forms.{Termed}
use Rattle.jn_base.specs.FormTests.{has}
use Rattle.jn_base.proofs.forms.in_terms.Given as goal

abbrev pub invariant-loop-term : goal.invariant-loop-term
invariant-loop-term l = has l.asked (map Termed (drop l.term-index l.terms)) ≡ has l.asked (map Termed l.terms)
