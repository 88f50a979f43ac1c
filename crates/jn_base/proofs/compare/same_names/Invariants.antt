use Rattle.std.proofs.Common.{◌≡◌, take, length}
use Rattle.jn_base.proofs.compare.same_names.Given as goal

abbrev pub invariant-loop-i : goal.invariant-loop-i
invariant-loop-i l = (length l.names ≡ length l.others) × (take l.i l.names ≡ take l.i l.others)
