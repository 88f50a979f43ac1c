use Rattle.std.proofs.Common.{◌≡◌, map, drop}
use Rattle.std.specs.Ordering.{nat_cmp}
use Rattle.std.specs.Cmp.Lexicographic.{slice_cmp}
use Rattle.jn_sem.specs.Normal.{name_number}
use Rattle.jn_normal.proofs.compare.first_unlike.Given as goal

abbrev pub invariant-loop-i : goal.invariant-loop-i
invariant-loop-i l =
    slice_cmp nat_cmp (map name_number (drop l.i l.xs)) (map name_number (drop l.i l.ys)) ≡ slice_cmp nat_cmp (map name_number l.xs) (map name_number l.ys)
