use Rattle.std.proofs.Common.{◌≡◌, drop, map}
use Rattle.jn_base.specs.Forms.{all_of, of_decl}
use Rattle.jn_base.specs.FormTests.{has}
use Rattle.jn_base.proofs.forms.in_decls.Given as goal

abbrev pub invariant-loop-d : goal.invariant-loop-d
invariant-loop-d l = has l.asked (all_of (map of_decl (drop l.d-index l.decls))) ≡ has l.asked (all_of (map of_decl l.decls))
