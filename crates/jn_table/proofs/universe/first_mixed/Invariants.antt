use Rattle.std.proofs.Common.{ℕ, ◌<◌}
use Rattle.jn_table.specs.Own.{MixedAt}
use Rattle.jn_table.proofs.universe.first_mixed.Given as goal

abbrev pub invariant-loop-number : goal.invariant-loop-number
invariant-loop-number l = (k : ℕ) → k < l.number → MixedAt l.universe.own l.universe.sups.items k → ⊥
