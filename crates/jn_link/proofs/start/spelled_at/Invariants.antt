use Rattle.std.proofs.Common.{◌<◌, ℕ}
use Rattle.jn_link.specs.Start.{SpellsAt}
use Rattle.jn_link.proofs.start.spelled_at.Given as goal

abbrev pub invariant-loop-k : goal.invariant-loop-k
invariant-loop-k l = (i : ℕ) → i < l.k → SpellsAt l.names l.bytes i → ⊥
