use Rattle.std.proofs.Common.{◌≡◌, ◌<◌, ℕ, Some, slice_get}
use Rattle.jn_base.specs.Atoms.{HasMask}
use Rattle.jn_meaning.proofs.typing.is_masked.Given as goal

abbrev pub invariant-loop-i : goal.invariant-loop-i
invariant-loop-i l = (j : ℕ) → j < l.i → HasMask l.m j → slice_get l.names j ≡ Some l.field → ⊥
