use Rattle.std.proofs.Common.{◌≤◌, length, drop, map, reverse, Some}
use Rattle.jn_code.specs.Kinds.{each_some, kind_of}
use Rattle.jn_verify.specs.Tails.{IsTaken}
use Rattle.jn_verify.proofs.takes.take_params.Given as goal

abbrev pub invariant-loop-left : goal.invariant-loop-left
invariant-loop-left l = record {
  left_in : l.left ≤ length l.params;
  taken : IsTaken l.tails (each_some (reverse (map kind_of (drop l.left l.params)))) l.n (Some l.below);
}

abbrev pub decreases-loop-left : goal.decreases-loop-left
decreases-loop-left l = l.left
