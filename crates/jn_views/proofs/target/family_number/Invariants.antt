use Rattle.std.proofs.Common.{ℕ, ◌<◌, ◌∷◌, []}
use Rattle.jn_share.specs.Atoms.{HasNames}
use Rattle.jn_views.proofs.target.family_number.Given as goal

abbrev pub invariant-loop-k : goal.invariant-loop-k
invariant-loop-k l = (j : ℕ) → j < l.k → HasNames l.t.known.items (l.name ∷ []) (record { 0 = j }) → ⊥
