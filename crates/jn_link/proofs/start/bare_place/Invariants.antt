use Rattle.std.proofs.Common.{◌≡◌, ◌<◌, ℕ, slice_get, Some}
use Rattle.jn_link.specs.Start.{bare_sel}
use Rattle.jn_link.proofs.start.bare_place.Given as goal

abbrev pub invariant-loop-k : goal.invariant-loop-k
invariant-loop-k l = (i : ℕ) → i < l.k → slice_get l.names i ≡ Some (bare_sel l.name) → ⊥
