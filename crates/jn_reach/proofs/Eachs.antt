-- How a loop makes one thing for each, and what is at a place.
use Rattle.std.proofs.Common.{All, ◌≡◌, ◌<◌, ◌+◌, ℕ, zero, suc, List, [], ◌∷◌, ◌++◌, length, slice_get, Some, take, get_or, sym, ◌∙◌, ap, subst, refl}
use Rattle.std.proofs.lemmas.List.{take_more}
use Rattle.jn_reach.specs.Each.{Each, none, more}

pub Each-push : {A B : Type 0} (R : A → B → Type 0) {xs : List A} {ys : List B} {x : A} {y : B}
    → Each R xs ys → R x y → Each R (xs ++ x ∷ []) (ys ++ y ∷ [])
Each-push R none r = more r none
Each-push R (more s e) r = more s (Each-push R e r)

-- a step of the loop
pub Each-more : {A B : Type 0} (R : A → B → Type 0) (xs : List A) (ys : List B) (i : ℕ) (x : A) (y : B)
    → i < length xs → x ≡ get_or xs i x → Each R (take i xs) ys → R x y → Each R (take (i + 1) xs) (ys ++ y ∷ [])
Each-more R xs ys i x y l is e r =
    let taken : take (i + 1) xs ≡ take i xs ++ x ∷ [] = take_more xs i x l ∙ ap (λ z. take i xs ++ z ∷ []) (sym is) in
    subst (λ zs. Each R zs (ys ++ y ∷ [])) (sym taken) (Each-push R e r)

pub Each-length : {A B : Type 0} (R : A → B → Type 0) {xs : List A} {ys : List B} → Each R xs ys → length ys ≡ length xs
Each-length R none = refl
Each-length R (more r e) = ap suc (Each-length R e)

pub Each-at : {A B : Type 0} (R : A → B → Type 0) {xs : List A} {ys : List B} → Each R xs ys
    → (k : ℕ) (x : A) → slice_get xs k ≡ Some x → (y : B) × (slice_get ys k ≡ Some y) × R x y
Each-at R none k x at = absurd (cc)
Each-at R (more {y = b} r e) zero x at = (b, refl, subst (λ z. R z b) (cc at) r)
Each-at R (more r e) (suc k) x at = Each-at R e k x at

pub Each-back : {A B : Type 0} (R : A → B → Type 0) {xs : List A} {ys : List B} → Each R xs ys
    → (k : ℕ) (y : B) → slice_get ys k ≡ Some y → (x : A) × (slice_get xs k ≡ Some x) × R x y
Each-back R none k y at = absurd (cc)
Each-back R (more {x = a} r e) zero y at = (a, refl, subst (R a) (cc at) r)
Each-back R (more r e) (suc k) y at = Each-back R e k y at

pub Each-none : {A B : Type 0} (R : A → B → Type 0) (ys : List B) → ys ≡ [] → Each R [] ys
Each-none R ys e = subst (Each R []) (sym e) none

-- what holds of all holds of the item of a loop
pub All_here : {A : Type 0} (P : A → Type 0) (xs : List A) (i : ℕ) (x : A) → i < length xs → x ≡ get_or xs i x → All P xs → P x
All_here P xs i x l is all = subst P (sym is) (all i x l)
