use Rattle.std.proofs.Common.{◌≡◌, take, length}
use Rattle.jn_header.proofs.alike.are_atoms.Given as goal

abbrev pub invariant-loop-i : goal.invariant-loop-i
invariant-loop-i l = (length l.xs ≡ length l.ys) × (take l.i l.xs ≡ take l.i l.ys)
