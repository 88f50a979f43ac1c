-- Lists that loops go through from their end, and what is left of them.
use Rattle.std.proofs.Common.{◌≡◌, refl, sym, ap, ◌∙◌, ℕ, ◌-◌, ◌<◌, ◌≤◌, List, [], ◌∷◌, ◌++◌, length, drop, true, false, Some, arith}
use Rattle.std.proofs.lemmas.List.{length-drop, drop_all}
use Rattle.jn_code.specs.Kinds.{each_some, one}
use Rattle.jn_code.specs.Rows.{same_numbers}

long_differs : (xs : List ℕ) → 0 < length xs → false ≡ same_numbers xs []
long_differs [] h = absurd (omega arith)
long_differs (x ∷ xs) h = refl

short_differs : (ys : List ℕ) → 0 < length ys → false ≡ same_numbers [] ys
short_differs [] h = absurd (omega arith)
short_differs (y ∷ ys) h = refl

-- one list ends first
pub first_is_longer : (xs ys : List ℕ) (at : ℕ) → at < length xs → length ys ≤ at → same_numbers (drop at xs) (drop at ys) ≡ same_numbers xs ys → false ≡ same_numbers xs ys
first_is_longer xs ys at h k e =
    let l : length (drop at xs) ≡ length xs - at = length-drop at xs in
    long_differs (drop at xs) (omega arith) ∙ ap (same_numbers (drop at xs)) (sym (drop_all at ys k)) ∙ e

pub second_is_longer : (xs ys : List ℕ) (at : ℕ) → length xs ≤ at → at < length ys → same_numbers (drop at xs) (drop at ys) ≡ same_numbers xs ys → false ≡ same_numbers xs ys
second_is_longer xs ys at h k e =
    let l : length (drop at ys) ≡ length ys - at = length-drop at ys in
    short_differs (drop at ys) (omega arith) ∙ ap (λ (zs : List ℕ). same_numbers zs (drop at ys)) (sym (drop_all at xs h)) ∙ e

pub both_end : (xs ys : List ℕ) (at : ℕ) → length xs ≤ at → length ys ≤ at → same_numbers (drop at xs) (drop at ys) ≡ same_numbers xs ys → true ≡ same_numbers xs ys
both_end xs ys at h k e =
    ap (λ (zs : List ℕ). same_numbers zs []) (sym (drop_all at xs h)) ∙ ap (same_numbers (drop at xs)) (sym (drop_all at ys k)) ∙ e

pub each_some_last : {X : Type 0} (xs : List X) (a : X) → each_some (xs ++ one a) ≡ each_some xs ++ (Some a ∷ [])
each_some_last [] a = refl
each_some_last (x ∷ xs) a = ap (λ s. Some x ∷ s) (each_some_last xs a)
