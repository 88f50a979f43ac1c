-- Lists of what is so, chosen from a list that has all of it.
use Rattle.std.proofs.Common.{◌≡◌, ℕ, zero, suc, List, [], ◌∷◌, ◌++◌, Some, refl, sym, ap, subst, ◌⊎◌, inl, inr}
use Rattle.std.specs.Prelude.{slice_get, map}
use Rattle.jn_base.specs.Atoms.{Among, first, later}
use Rattle.jn_sem.proofs.FindingLaws.{among_of, contains_of}
use Rattle.jn_laws.specs.Surely.{Surely, ListOf}
use Rattle.jn_laws.proofs.Sures.{surely, and_so, map_surely, decided}

pub among_left : {A : Type 0} {x : A} (xs ys : List A) → Among xs x → Among (xs ++ ys) x
among_left _ ys first = first
among_left _ ys (later a) = later (among_left _ ys a)

pub among_right : {A : Type 0} {x : A} (xs ys : List A) → Among ys x → Among (xs ++ ys) x
among_right [] ys a = a
among_right (y ∷ xs) ys a = later (among_right xs ys a)

pub among_map : {A B : Type 0} (f : A → B) (xs : List A) (x : A) → Among xs x → Among (map f xs) (f x)
among_map f _ _ first = first
among_map f _ x (later a) = later (among_map f _ x a)

-- no element stands twice
pub Distinct : {A : Type 0} → List A → Type 0
Distinct [] = Unit {0}
Distinct (x ∷ xs) = (Among xs x → ⊥) × Distinct xs

none_got : {A : Type 0} (i : ℕ) (x : A) → slice_get [] i ≡ Some x → ⊥
none_got i x e = cc

same_some : {A : Type 0} (y x : A) → Some y ≡ Some x → y ≡ x
same_some y x e = cc

pub got : {A : Type 0} (xs : List A) (i : ℕ) (x : A) → slice_get xs i ≡ Some x → Among xs x
got [] i x e = absurd (none_got i x e)
got (y ∷ xs) zero x e = subst (Among (y ∷ xs)) (same_some y x e) first
got (y ∷ xs) (suc i) x e = later (got xs i x e)

-- so each stands in one place
pub one_place : {A : Type 0} (xs : List A) → Distinct xs → (i j : ℕ) (x : A) → slice_get xs i ≡ Some x → slice_get xs j ≡ Some x → i ≡ j
unfolding Distinct
one_place [] d i j x e k = absurd (none_got i x e)
one_place (y ∷ xs) d zero zero x e k = refl
one_place (y ∷ xs) d zero (suc j) x e k = absurd (d.0 (subst (Among xs) (sym (same_some y x e)) (got xs j x k)))
one_place (y ∷ xs) d (suc i) zero x e k = absurd (d.0 (subst (Among xs) (sym (same_some y x k)) (got xs i x e)))
one_place (y ∷ xs) d (suc i) (suc j) x e k = ap suc (one_place xs d.1 i j x e k)

-- those of the list of which T holds, each once
pub record Chosen {A : Type 0} (T : A → Type 0) (xs : List A) : Type 0 where
  pub items : List A
  pub distinct : Distinct items
  pub holds : (a : A) → Among items a → T a
  pub all : (a : A) → Among xs a → T a → Among items a

module _ {A : Type 0} (T : A → Type 0) (x : A) (xs : List A) (c : Chosen T xs) where
  all_passed : (T x → ⊥) → (a : A) → Among (x ∷ xs) a → T a → Among c.items a
  all_passed n _ first t = absurd (n t)
  all_passed n a (later m) t = c.all a m t

  all_there : Among c.items x → (a : A) → Among (x ∷ xs) a → T a → Among c.items a
  all_there m _ first t = m
  all_there m a (later k) t = c.all a k t

  all_new : (a : A) → Among (x ∷ xs) a → T a → Among (x ∷ c.items) a
  all_new _ first t = first
  all_new a (later m) t = later (c.all a m t)

  holds_new : T x → (a : A) → Among (x ∷ c.items) a → T a
  holds_new h _ first = h
  holds_new h a (later m) = c.holds a m

  with_one : (T x) ⊎ (T x → ⊥) → (Among c.items x) ⊎ (Among c.items x → ⊥) → Chosen T (x ∷ xs)
  unfolding Distinct
  with_one (inr n) d = record { items = c.items; distinct = c.distinct; holds = c.holds; all = all_passed n }
  with_one (inl h) (inl m) = record { items = c.items; distinct = c.distinct; holds = c.holds; all = all_there m }
  with_one (inl h) (inr n) = record { items = x ∷ c.items; distinct = (n, c.distinct); holds = holds_new h; all = all_new }

pub chosen : {A : Type 0} (T : A → Type 0) (xs : List A) → Surely (Chosen T xs)
unfolding Distinct
chosen T [] = surely (record { items = []; distinct = tt; holds = λ a m. elim m [ ]; all = λ a m t. elim m [ ] })
chosen T (x ∷ xs) =
    and_so (chosen T xs) (λ c. and_so (decided (T x)) (λ t. map_surely (decided (Among c.items x)) (λ d. with_one T x xs c t d)))

-- what is so is listed where a list has all of it
pub listed : {A : Type 0} (T : A → Type 0) (xs : List A) → ((a : A) → T a → Among xs a) → Surely (ListOf T)
listed T xs h = map_surely (chosen T xs) (λ c. record {
  items = c.items;
  exact = λ a. (λ m. c.holds a (among_of c.items a m), λ t. contains_of c.items a (c.all a (h a t) t));
  once = one_place c.items c.distinct;
})
