-- A list whose things are found among those of another, each at a place of its own, sums to no more than it.
use Rattle.std.proofs.Common.{◌≡◌, ◌≤◌, ◌+◌, ◌⊎◌, inl, inr, ℕ, zero, suc, List, [], ◌∷◌, ◌++◌, length, map, Contains, Some, slice_get, refl, sym, ap, ◌∙◌, subst, arith}
use Rattle.std.proofs.lemmas.List.Elements.{Contains-append_cases}
use Rattle.jn_base.proofs.NameTests.{in_cons, in_none, first, later}
use Rattle.jn_table.proofs.Maps.{in_list}
use Rattle.jn_size_laws.specs.Sizes.{total}

-- ---- without one

abbrev pub without : {A : Type 0} → List A → ℕ → List A
without [] k = []
without (x ∷ xs) zero = xs
without (x ∷ xs) (suc k) = x ∷ without xs k

pub without_at : {A : Type 0} (xs : List A) (k j : ℕ) (x : A) → (j ≡ k → ⊥) → slice_get xs j ≡ Some x
    → (l : ℕ) × (slice_get (without xs k) l ≡ Some x)
without_at [] k j x n e = absurd (cc e)
without_at (y ∷ xs) zero zero x n e = absurd (n refl)
without_at (y ∷ xs) zero (suc j) x n e = (j, e)
without_at (y ∷ xs) (suc k) zero x n e = (zero, e)
without_at (y ∷ xs) (suc k) (suc j) x n e =
    let w = without_at xs k j x (λ h. n (ap suc h)) e in
    (suc w.0, w.1)

pub total_without : {A : Type 0} (g : A → ℕ) (xs : List A) (k : ℕ) (x : A) → slice_get xs k ≡ Some x
    → total (map g xs) ≡ g x + total (map g (without xs k))
total_without g [] k x e = absurd (cc e)
total_without {A} g (y ∷ xs) zero x e =
    let h : y ≡ x = cc e in
    ap (λ (z : A). g z + total (map g xs)) h
total_without g (y ∷ xs) (suc k) x e =
    let h = total_without g xs k x e in
    omega (arith, h)

-- ---- one place each

abbrev pub IsOnce : {A : Type 0} → List A → Type 0
IsOnce {A} xs = (i j : ℕ) (x : A) → slice_get xs i ≡ Some x → slice_get xs j ≡ Some x → i ≡ j

pub once_rest : {A : Type 0} (x : A) (xs : List A) → IsOnce (x ∷ xs) → IsOnce xs
once_rest x xs o i j y a b = let e : suc i ≡ suc j = o (suc i) (suc j) y a b in omega (arith, e)

-- one of these is found for the thing
pub record IsFound {A B : Type 0} (R : A → B → Type 0) (ys : List B) (x : A) : Type 0 where
  pub place : ℕ
  pub thing : B
  pub at : slice_get ys place ≡ Some thing
  pub is : R x thing

same_or_other : (i j : ℕ) → (i ≡ j) ⊎ (i ≡ j → ⊥)
same_or_other zero zero = inl refl
same_or_other zero (suc j) = inr (λ e. omega (arith, e))
same_or_other (suc i) zero = inr (λ e. omega (arith, e))
same_or_other (suc i) (suc j) = by_rest (same_or_other i j) where
  by_rest : (i ≡ j) ⊎ (i ≡ j → ⊥) → (suc i ≡ suc j) ⊎ (suc i ≡ suc j → ⊥)
  by_rest (inl e) = inl (ap suc e)
  by_rest (inr n) = inr (λ e. n (omega (arith, e)))

module _ {A B : Type 0} (R : A → B → Type 0) (f : A → ℕ) (g : B → ℕ)
    (alone : (x y : A) (b : B) → R x b → R y b → x ≡ y) (least : (x : A) (b : B) → R x b → f x ≤ g b)
  where
    pub sums_to_less : (xs : List A) (ys : List B) → IsOnce xs
        → ((i : ℕ) (x : A) → slice_get xs i ≡ Some x → IsFound R ys x) → total (map f xs) ≤ total (map g ys)
    sums_to_less [] ys once found = omega arith
    sums_to_less (x ∷ xs) ys once found =
        let rest = sums_to_less xs (without ys mine.place) (once_rest x xs once) moved in
        let sum = total_without g ys mine.place mine.thing mine.at in
        let few = least x mine.thing mine.is in
        omega (arith, rest, sum, few)
      where
        mine : IsFound R ys x
        mine = found zero x refl

        moved : (i : ℕ) (y : A) → slice_get xs i ≡ Some y → IsFound R (without ys mine.place) y
        moved i y a = by_place (same_or_other its.place mine.place) where
          its : IsFound R ys y
          its = found (suc i) y a

          by_place : (its.place ≡ mine.place) ⊎ (its.place ≡ mine.place → ⊥) → IsFound R (without ys mine.place) y
          by_place (inr n) =
              let w = without_at ys mine.place its.place its.thing n its.at in
              record { place = w.0; thing = its.thing; at = w.1; is = its.is }
          by_place (inl e) =
              let both : Some its.thing ≡ Some mine.thing =
              sym its.at ∙ (ap (slice_get ys) e ∙ mine.at) in
              let thing : its.thing ≡ mine.thing = cc both in
              let same : x ≡ y = alone x y mine.thing mine.is (subst (R y) thing its.is) in
              let no : zero ≡ suc i = once zero (suc i) x refl (a ∙ ap Some (sym same)) in
              absurd (omega (arith, no))

pub ones : {A : Type 0} (xs : List A) → total (map (λ (x : A). 1) xs) ≡ length xs
ones [] = refl
ones (x ∷ xs) = let h = ones xs in omega (arith, h)

-- so there are no more of them
pub no_more : {A B : Type 0} (R : A → B → Type 0) → ((x y : A) (b : B) → R x b → R y b → x ≡ y)
    → (xs : List A) (ys : List B) → IsOnce xs → ((i : ℕ) (x : A) → slice_get xs i ≡ Some x → IsFound R ys x)
    → length xs ≤ length ys
no_more {A} {B} R alone xs ys once found =
    let few = sums_to_less R (λ (x : A). 1) (λ (y : B). 1) alone (λ x b r. omega arith) xs ys once found in
    let one = ones xs in
    let other = ones ys in
    omega (arith, few, one, other)

-- ---- lists in which each thing stands once

abbrev pub EachOnce : {A : Type 0} → List A → Type 0
EachOnce [] = Unit {0}
EachOnce (x ∷ xs) = (Contains xs x → ⊥) × EachOnce xs

pub each_places : {A : Type 0} (xs : List A) → EachOnce xs → IsOnce xs
each_places [] o j k x a b = absurd (in_none x (in_list [] j x a))
each_places (y ∷ ys) o zero zero x a b = refl
each_places (y ∷ ys) o zero (suc k) x a b =
    let e : y ≡ x = cc a in
    absurd (o.0 (subst (Contains ys) (sym e) (in_list ys k x b)))
each_places (y ∷ ys) o (suc j) zero x a b =
    let e : y ≡ x = cc b in
    absurd (o.0 (subst (Contains ys) (sym e) (in_list ys j x a)))
each_places (y ∷ ys) o (suc j) (suc k) x a b = ap suc (each_places ys o.1 j k x a b)

pub each_joined : {A : Type 0} (xs ys : List A) → EachOnce xs → EachOnce ys
    → ((x : A) → Contains xs x → Contains ys x → ⊥) → EachOnce (xs ++ ys)
each_joined [] ys a b c = b
each_joined (x ∷ xs) ys (n, a) b c =
    ((λ h. by_part (Contains-append_cases xs ys x h)), each_joined xs ys a b (λ z d e. c z (later x xs z d) e)) where
      by_part : Contains xs x ⊎ Contains ys x → ⊥
      by_part (inl h) = n h
      by_part (inr h) = c x (first x xs) h

-- a thing of a mapped list
pub from_mapped : {A B : Type 0} (f : A → B) (xs : List A) (y : B) → Contains (map f xs) y
    → (x : A) × Contains xs x × (f x ≡ y)
from_mapped f [] y c = absurd (in_none y c)
from_mapped {A} {B} f (x ∷ xs) y c = by_place (in_cons (f x) (map f xs) y c) (λ d. from_mapped f xs y d) where
  by_place : (f x ≡ y) ⊎ Contains (map f xs) y → (Contains (map f xs) y → (z : A) × Contains xs z × (f z ≡ y))
      → (z : A) × Contains (x ∷ xs) z × (f z ≡ y)
  by_place (inl e) again = (x, first x xs, e)
  by_place (inr d) again = let w = again d in (w.0, later x xs w.0 w.1, w.2)

-- where the keys ascend, and what is said of each tells its key
pub each_mapped : {A B : Type 0} (f : A → B) (xs : List A) → EachOnce xs
    → ((x y : A) → Contains xs x → Contains xs y → f x ≡ f y → x ≡ y) → EachOnce (map f xs)
each_mapped f [] o alone = tt
each_mapped f (x ∷ xs) (n, o) alone = (
  (λ c. let w = from_mapped f xs (f x) c in
      let same = alone w.0 x (later x xs w.0 w.1) (first x xs) w.2 in
      n (subst (Contains xs) same w.1)),
  each_mapped f xs o (λ y z a b e. alone y z (later x xs y a) (later x xs z b) e),
)
