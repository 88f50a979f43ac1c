use Rattle.std.proofs.Common.{◌≡◌, ◌-◌, ◌≤◌, drop, length}
use Rattle.jn_code.specs.Rows.{same_numbers}
use Rattle.jn_verify.proofs.rows.same_numbers.Given as goal

abbrev pub invariant-loop-at : goal.invariant-loop-at
invariant-loop-at l = record {
  in_xs : l.at ≤ length l.xs;
  in_ys : l.at ≤ length l.ys;
  rest : same_numbers (drop l.at l.xs) (drop l.at l.ys) ≡ same_numbers l.xs l.ys;
}

abbrev pub decreases-loop-at : goal.decreases-loop-at
decreases-loop-at l = length l.xs - l.at
