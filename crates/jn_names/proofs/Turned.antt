-- Lists that are turned round: the innermost name first in definitions, the outermost first in code.
use Rattle.std.proofs.Common.{◌≡◌, ◌≤◌, ◌<◌, ◌-◌, ◌+◌, ℕ, suc, List, [], ◌∷◌, ◌++◌, length, reverse, take, drop, get_or}
use Rattle.std.proofs.Common.{sym, ap, ◌∙◌, arith, add-one, ◌⊎◌, inl, inr}
use Rattle.std.proofs.lemmas.List.{reverse-append, reverse-reverse, take-append-drop, length-drop, length-reverse}
use Rattle.std.proofs.lemmas.Bool.{cases_lt}
use Rattle.std.proofs.Math.ListN.{drop_of_length-le}
use Rattle.std.proofs.Math.Seq.{drop-append_seam, drop-cons}

-- the element at i, and what stands behind it
pub at_index : {A : Type 0} (xs : List A) (i : ℕ) (x : A) → i < length xs → x ≡ get_or xs i x
    → drop i xs ≡ x ∷ drop (i + 1) xs
at_index {A} xs i x h e = drop-cons xs i x h ∙
    (ap (λ (y : A). y ∷ drop (suc i) xs) (sym e) ∙ ap (λ (n : ℕ). x ∷ drop n xs) (sym (add-one i)))

pub at_place : {A : Type 0} (xs : List A) (i : ℕ) (d : A) → i < length xs → drop i xs ≡ get_or xs i d ∷ drop (i + 1) xs
at_place xs i d h = drop-cons xs i d h ∙ ap (λ (n : ℕ). get_or xs i d ∷ drop n xs) (sym (add-one i))

pub turned_one : {A : Type 0} (xs : List A) (x : A) → reverse (xs ++ x ∷ []) ≡ x ∷ reverse xs
turned_one xs x = reverse-append xs (x ∷ [])

pub turned_first : {A : Type 0} (x : A) (xs : List A) → reverse (x ∷ xs) ≡ reverse xs ++ x ∷ []
turned_first x xs = reverse-append (x ∷ []) xs

-- the first n of a list are, turned, what is left without as many last ones as are behind them
pub kept : {A : Type 0} (xs : List A) (n k : ℕ) → n + k ≡ length xs → reverse (take n xs) ≡ drop k (reverse xs)
kept {A} xs n k e =
    let back : k ≡ length (reverse (drop n xs)) = sym
    (length-reverse (drop n xs) ∙ (length-drop n xs ∙ omega arith)) in
    let whole : reverse xs ≡ reverse (drop n xs) ++ reverse (take n xs) =
    ap reverse (sym (take-append-drop n xs)) ∙ reverse-append (take n xs) (drop n xs) in
    sym (ap (λ (m : ℕ). drop m (reverse xs)) back
    ∙ (ap (drop (length (reverse (drop n xs)))) whole ∙ drop-append_seam (reverse (drop n xs)) (reverse (take n xs))))

-- for every k: where there are no more than k, none is left
pub kept_any : {A : Type 0} (xs : List A) (k : ℕ) → reverse (take (length xs - k) xs) ≡ drop k (reverse xs)
kept_any {A} xs k = by_order (cases_lt (length xs) k) where
  by_order : (length xs < k) ⊎ (k ≤ length xs) → reverse (take (length xs - k) xs) ≡ drop k (reverse xs)
  by_order (inl h) =
      let none : length xs - k ≡ 0 = omega arith in
      let past : length (reverse xs) ≤ k = omega (arith, length-reverse xs) in
      ap (λ (n : ℕ). reverse (take n xs)) none ∙ sym (drop_of_length-le (reverse xs) past)
  by_order (inr h) = kept xs (length xs - k) k (omega arith)

pub turned_same : {A : Type 0} (xs ys : List A) → reverse xs ≡ reverse ys → xs ≡ ys
turned_same xs ys e = sym (reverse-reverse xs) ∙ (ap reverse e ∙ reverse-reverse ys)
