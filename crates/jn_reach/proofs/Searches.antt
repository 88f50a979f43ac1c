-- A search through a list by a test: what its loop keeps, and its two ends.
use Rattle.std.proofs.Common.{◌≡◌, ◌<◌, ◌≤◌, ◌+◌, ℕ, List, length, slice_get, Some, arith, sym, ◌∙◌, get_or, Option, inl, inr, subst, refl, Bool, true, false, ◌↔◌, IsTrue}
use Rattle.std.specs.List.{Any}
use Rattle.std.proofs.lemmas.Bool.{false≢true, cases_lt}
use Rattle.std.proofs.lemmas.Option.{slice_get_read}

-- none of the first n passes
abbrev pub NoneBefore : {X : Type 0} → (X → Type 0) → List X → ℕ → Type 0
NoneBefore {X} P xs n = (k : ℕ) (x : X) → k < n → slice_get xs k ≡ Some x → P x → ⊥

-- what stands at one place is one thing
pub same_some : {X : Type 0} (o : Option X) (x y : X) → o ≡ Some x → o ≡ Some y → x ≡ y
same_some o x y p q = cc

pub any_found : {X : Type 0} (P : X → Type 0) (xs : List X) (i : ℕ) (x : X) → i < length xs → x ≡ get_or xs i x → P x → Any P xs
any_found P xs i x l e p = (i, x, l, sym e, p)

pub none_more : {X : Type 0} (P : X → Type 0) (xs : List X) (i : ℕ) (x : X) → i < length xs → x ≡ get_or xs i x → (P x → ⊥)
    → NoneBefore P xs i → NoneBefore P xs (i + 1)
none_more {X} P xs i x l e fails none k y m at p = elim (cases_lt k i) [
  | inl before ↦ none k y before at p
  | inr past ↦
      let here : slice_get xs k ≡ Some x = rw (let n : k ≡ i = omega arith in n) (slice_get_read xs (length xs) i x refl l e) in
      fails (subst P (same_some (slice_get xs k) y x at here) p)
]

pub none_all : {X : Type 0} (P : X → Type 0) (xs : List X) (i : ℕ) → length xs ≤ i → NoneBefore P xs i → Any P xs → ⊥
none_all P xs i past none found =
    none found.0 found.1 (omega (arith, found.2, past)) (slice_get_read xs (length xs) found.0 found.1 refl found.2 (sym found.3)) found.4

pub iff_true : {P : Type 0} → P → IsTrue true ↔ P
iff_true p = (λ _. p, λ _. refl)

pub iff_false : {P : Type 0} → (P → ⊥) → IsTrue false ↔ P
iff_false n = (λ h. absurd (false≢true h), λ p. absurd (n p))

pub not_when : {b : Bool} {P : Type 0} → b ≡ false → IsTrue b ↔ P → P → ⊥
not_when e i p = false≢true (sym e ∙ i.1 p)
