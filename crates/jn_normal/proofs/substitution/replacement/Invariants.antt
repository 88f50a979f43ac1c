use Rattle.std.proofs.Common.{◌≡◌, drop}
use Rattle.jn_sem.specs.Normal.{swapped}
use Rattle.jn_normal.proofs.substitution.replacement.Given as goal

abbrev pub invariant-loop-i : goal.invariant-loop-i
invariant-loop-i l = swapped (drop l.i l.from) (drop l.i l.to) l.q ≡ swapped l.from l.to l.q
