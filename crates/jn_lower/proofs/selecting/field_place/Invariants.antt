use Rattle.std.proofs.Common.{◌≡◌, ◌<◌, ℕ, slice_get, Some}
use Rattle.jn_lower.specs.Selecting.{field_sel}
use Rattle.jn_lower.proofs.selecting.field_place.Given as goal

abbrev pub invariant-loop-k : goal.invariant-loop-k
invariant-loop-k l = (i : ℕ) → i < l.k → slice_get l.names i ≡ Some (field_sel l.name l.kind) → ⊥
