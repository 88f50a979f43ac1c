-- Kinds are written as they are.
use Rattle.std.proofs.Common.{◌≡◌, ℕ, List, [], ◌∷◌, refl, ap}
use Rattle.std.specs.List.{flat_map}

pub kinds_spelled : (ks : List ℕ) → flat_map (λ k. k ∷ []) ks ≡ ks
kinds_spelled [] = refl
kinds_spelled (k ∷ ks) = ap (λ (w : List ℕ). k ∷ w) (kinds_spelled ks)
