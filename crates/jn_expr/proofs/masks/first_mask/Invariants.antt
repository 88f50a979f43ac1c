use Rattle.jn_expr.specs.Masking.{FirstBelow}
use Rattle.jn_expr.proofs.masks.first_mask.Given as goal

abbrev pub invariant-loop-i : goal.invariant-loop-i
invariant-loop-i l = FirstBelow l.p l.names l.m l.i l.found
