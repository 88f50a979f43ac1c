use Rattle.std.proofs.Common.{◌≡◌, ◌≤◌, drop, length}
use Rattle.std.specs.Cmp.Lexicographic.{slice_cmp}
use Rattle.std.specs.Ordering.{nat_cmp}
use Rattle.jn_table.specs.Places.{name_numbers}
use Rattle.jn_table.proofs.finding.compared.Given as goal

abbrev pub invariant-loop-i : goal.invariant-loop-i
invariant-loop-i l = record {
  within : l.i ≤ length l.b;
  same : slice_cmp nat_cmp (name_numbers l.a) (name_numbers l.b)
      ≡ slice_cmp nat_cmp (name_numbers (drop l.i l.a)) (name_numbers (drop l.i l.b));
}
