use Rattle.std.proofs.Common.{◌≡◌, take, length, map}
use Rattle.jn_rules.specs.Members.{var_fixed, var_type}
use Rattle.jn_header.proofs.alike.are_alike.Given as goal

abbrev pub invariant-loop-i : goal.invariant-loop-i
invariant-loop-i l =
    (length l.xs ≡ length l.ys) × (map var_fixed (take l.i l.xs) ≡ map var_fixed (take l.i l.ys)) × (map var_type (take l.i l.xs) ≡ map var_type (take l.i l.ys))
