-- Lists in strict order, by their places.
use Rattle.std.proofs.Common.{◌≡◌, ◌<◌, ℕ, List, [], ◌∷◌, slice_get, Some, get_or, arith, subst, refl, suc, inl, inr}
use Rattle.std.specs.declared.cmp.Ordering.{Ordering}
use Rattle.std.specs.declared.cmp.Ordering.TheVariants.{Less}
use Rattle.std.specs.List.Sorted.{IsStrictlySortedBy}
use Rattle.std.proofs.lemmas.Bool.{cases_lt}
use Rattle.std.proofs.lemmas.Option.{slice_get_within, get_or_from_slice_get, slice_get-get_or}
use Rattle.std.proofs.lemmas.Map.Keys.{Less-from_sorted}
use Rattle.std.proofs.lemmas.List.Elements.{recursion_from_All}
use Rattle.jn_reach.proofs.Searches.{same_some}

-- each thing is before those behind it
pub record InOrder {A : Type 0} (c : A → A → Ordering) (xs : List A) : Type 0 where
  pub by : (i j : ℕ) (x y : A) → i < j → slice_get xs i ≡ Some x → slice_get xs j ≡ Some y → c x y ≡ Less

pub in_order : {A : Type 0} (c : A → A → Ordering) (xs : List A) → IsStrictlySortedBy c xs → InOrder c xs
in_order c xs s = record {
  by = λ i j x y l a b.
      let less = Less-from_sorted c xs i j x s l (slice_get_within xs j y b) in
      rw (get_or_from_slice_get xs i x x a, get_or_from_slice_get xs j y x b) at less;
}

tail_order : {A : Type 0} (c : A → A → Ordering) (x : A) (xs : List A) → InOrder c (x ∷ xs) → InOrder c xs
tail_order c x xs o = record { by = λ i j y z l a b. o.by (suc i) (suc j) y z (omega (arith, l)) a b }

pub sorted : {A : Type 0} (c : A → A → Ordering) (xs : List A) → InOrder c xs → IsStrictlySortedBy c xs
unfolding IsStrictlySortedBy
sorted c [] o = tt
sorted {A} c (x ∷ xs) o = (
  recursion_from_All (λ (y : A). c x y ≡ Less) xs
      (λ k d l. o.by 0 (suc k) x (get_or xs k d) (omega arith) refl (slice_get-get_or xs k d l)),
  sorted c xs (tail_order c x xs o),
)

-- where none is before itself, a thing has one place
pub one_place : {A : Type 0} (c : A → A → Ordering) → ((x : A) → c x x ≡ Less → ⊥) → (xs : List A) → InOrder c xs
    → (i j : ℕ) (x : A) → slice_get xs i ≡ Some x → slice_get xs j ≡ Some x → i ≡ j
one_place c irr xs o i j x a b = elim (cases_lt i j) [
  | inl below ↦ absurd (irr x (o.by i j x x below a b))
  | inr past ↦ elim (cases_lt j i) [
    | inl above ↦ absurd (irr x (o.by j i x x above b a))
    | inr same ↦ omega (arith, past, same)
  ]
]

-- and the places are ordered as the things are
pub place_below : {A : Type 0} (c : A → A → Ordering) → ((x : A) → c x x ≡ Less → ⊥)
    → ((x y z : A) → c x y ≡ Less → c y z ≡ Less → c x z ≡ Less)
    → (xs : List A) → InOrder c xs → (i j : ℕ) (x y : A) → slice_get xs i ≡ Some x → slice_get xs j ≡ Some y
    → c x y ≡ Less → i < j
place_below {A} c irr trans xs o i j x y a b l = elim (cases_lt i j) [
  | inl below ↦ below
  | inr past ↦ elim (cases_lt j i) [
    | inl above ↦ absurd (irr x (trans x y x l (o.by j i y x above b a)))
    | inr same ↦
        let e : x ≡ y = same_some (slice_get xs i) x y a
        (subst (λ (k : ℕ). slice_get xs k ≡ Some y) (let h : j ≡ i = omega (arith, past, same) in h) b) in
        absurd (irr y (subst (λ (z : A). c z y ≡ Less) e l))
  ]
]
