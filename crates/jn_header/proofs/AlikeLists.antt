-- Lists whose items are alike at each place.
use Rattle.std.proofs.Common.{◌≡◌, ◌↔◌, IsTrue, Bool, false, ◌<◌, ◌≤◌, ◌+◌, ℕ, zero, suc, List, [], ◌∷◌, length, map, take, get_or, refl, sym, ap, ◌∙◌, subst, arith, add-one}
use Rattle.std.proofs.lemmas.Bool.{false≢true}
use Rattle.std.proofs.lemmas.List.{take_all}
use Rattle.jn_base.specs.declared.names.Var.{Var}
use Rattle.jn_reach.proofs.Searches.{iff_false}
use Rattle.jn_rules.specs.Members.{var_fixed, var_type}

module _ {A B : Type 0} (f : A → B) where
  pub alike_length : (xs ys : List A) → map f xs ≡ map f ys → length xs ≡ length ys
  alike_length [] [] e = refl
  alike_length [] (y ∷ ys) e = absurd (cc e)
  alike_length (x ∷ xs) [] e = absurd (cc e)
  alike_length (x ∷ xs) (y ∷ ys) e = let k : map f xs ≡ map f ys = cc e in ap suc (alike_length xs ys k)

  pub alike_at : (xs ys : List A) (i : ℕ) (d e : A) → i < length xs → map f xs ≡ map f ys → f (get_or xs i d) ≡ f (get_or ys i e)
  alike_at [] ys i d e l k = absurd (omega (arith, l))
  alike_at (x ∷ xs) [] i d e l k = absurd (cc k)
  alike_at (x ∷ xs) (y ∷ ys) zero d e l k = cc k
  alike_at (x ∷ xs) (y ∷ ys) (suc i) d e l k = let j : map f xs ≡ map f ys = cc k in alike_at xs ys i d e (omega (arith, l)) j

  pub alike_next : (xs ys : List A) (i : ℕ) (d e : A) → i < length xs → length xs ≡ length ys → map f (take i xs) ≡ map f (take i ys)
      → f (get_or xs i d) ≡ f (get_or ys i e) → map f (take (suc i) xs) ≡ map f (take (suc i) ys)
  alike_next [] ys i d e l n m a = absurd (omega (arith, l))
  alike_next (x ∷ xs) [] i d e l n m a = absurd (cc n)
  alike_next (x ∷ xs) (y ∷ ys) zero d e l n m a = ap (λ z. z ∷ []) a
  alike_next (x ∷ xs) (y ∷ ys) (suc i) d e l n m a =
      let front : f x ≡ f y = cc m in
      let rest : map f (take i xs) ≡ map f (take i ys) = cc m in
      let longer : length xs ≡ length ys = cc n in
      let r : map f (take (suc i) xs) ≡ map f (take (suc i) ys) = alike_next xs ys i d e (omega (arith, l)) longer rest a in
      ap (λ z. z ∷ map f (take (suc i) xs)) front ∙ ap (λ zs. f y ∷ zs) r

  pub alike_more : (xs ys : List A) (i : ℕ) (d e : A) → i < length xs → length xs ≡ length ys → map f (take i xs) ≡ map f (take i ys)
      → f (get_or xs i d) ≡ f (get_or ys i e) → map f (take (i + 1) xs) ≡ map f (take (i + 1) ys)
  alike_more xs ys i d e l n m a = subst (λ (k : ℕ). map f (take k xs) ≡ map f (take k ys)) (sym (add-one i)) (alike_next xs ys i d e l n m a)

  pub alike_all : (xs ys : List A) (i : ℕ) → length xs ≤ i → length xs ≡ length ys → map f (take i xs) ≡ map f (take i ys) → map f xs ≡ map f ys
  alike_all xs ys i l n m =
      let k : length ys ≤ i = omega (arith, l, n) in
      ap (map f) (sym (take_all i xs l)) ∙ (m ∙ ap (map f) (take_all i ys k))

pub not_alike : (xs ys : List Var) (i : ℕ) (x y : Var) → i < length xs → x ≡ get_or xs i x → y ≡ get_or ys i y → (b : Bool)
    → IsTrue b ↔ ((var_fixed x ≡ var_fixed y) × (var_type x ≡ var_type y)) → b ≡ false
    → IsTrue false ↔ ((map var_fixed xs ≡ map var_fixed ys) × (map var_type xs ≡ map var_type ys))
not_alike xs ys i x y l e f b told differ = iff_false (λ m.
    let fixed : var_fixed x ≡ var_fixed y = ap var_fixed e ∙ (alike_at var_fixed xs ys i x y l m.0 ∙ sym (ap var_fixed f)) in
    let types : var_type x ≡ var_type y = ap var_type e ∙ (alike_at var_type xs ys i x y l m.1 ∙ sym (ap var_type f)) in
    false≢true (sym differ ∙ told.1 (fixed, types)))
