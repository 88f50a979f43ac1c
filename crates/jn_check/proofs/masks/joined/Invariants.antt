use Rattle.jn_check.proofs.Masking.{JoinsSoFar}
use Rattle.jn_check.proofs.masks.joined.Given as goal

abbrev pub invariant-loop-i : goal.invariant-loop-i
invariant-loop-i l = JoinsSoFar l.fn.pool l.pool l.one l.other l.i l.all.items
