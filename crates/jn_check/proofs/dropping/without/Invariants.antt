use Rattle.jn_check.proofs.Masking.{KeptBelow}
use Rattle.jn_check.proofs.dropping.without.Given as goal

abbrev pub invariant-loop-i : goal.invariant-loop-i
invariant-loop-i l = KeptBelow l.names l.fn.m l.field l.i l.kept
