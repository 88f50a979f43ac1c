use Rattle.std.proofs.Common.{◌≡◌, ◌≤◌, take, length}
use Rattle.jn_subtype.proofs.ends.is_front.Given as goal

abbrev pub invariant-loop-i : goal.invariant-loop-i
invariant-loop-i l = (length l.front ≤ length l.all) × (take l.i l.all ≡ take l.i l.front)
