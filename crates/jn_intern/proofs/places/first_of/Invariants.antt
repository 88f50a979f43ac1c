use Rattle.std.proofs.Common.{take}
use Rattle.jn_intern.specs.Places.{Lacks}
use Rattle.jn_intern.proofs.places.first_of.Given as goal

abbrev pub invariant-loop-i : goal.invariant-loop-i
invariant-loop-i l = Lacks (take l.i l.binds) l.path
