-- What stands at a place of a list.
use Rattle.std.proofs.Common.{◌≡◌, ◌<◌, ℕ, List, [], ◌∷◌, length, get_or, arith, refl, zero, suc, take, ap, ◌≤◌}

-- the item of a loop
pub same_item : {X : Type 0} (xs : List X) (i : ℕ) (d : X) → i < length xs
    → get_or xs i d ≡ get_or xs i (get_or xs i d)
same_item [] i d l = absurd (omega (arith, l))
same_item (x ∷ xs) zero d l = refl
same_item (x ∷ xs) (suc i) d l = same_item xs i d (omega (arith, l))

pub take_none : {X : Type 0} (r : ℕ) → ◌≡◌ {A = List X} (take r []) []
take_none zero = refl
take_none (suc r) = refl

pub take_whole : {X : Type 0} (r : ℕ) (xs : List X) → length xs ≤ r → take r xs ≡ xs
take_whole r [] l = take_none r
take_whole zero (x ∷ xs) l = absurd (omega (arith, l))
take_whole (suc r) (x ∷ xs) l = ap (λ zs. x ∷ zs) (take_whole r xs (omega (arith, l)))
