-- Elements of lists, and tests of names.
use Rattle.std.proofs.Common.{◌≡◌, ℕ, List, [], ◌∷◌, zero, suc, refl, ap, subst, Bool, true, false, ◌||◌, ◌&&◌, nat_eq, ◌⊎◌, inl, inr, arith, Contains}
use Rattle.std.specs.List.{list_all}
use Rattle.std.proofs.lemmas.List.Sums.{AllPass-from_list_all}
use Rattle.std.proofs.lemmas.List.Elements.{All-contains}
use Rattle.jn_base.specs.declared.tree.Name.{Name}
use Rattle.jn_base.specs.Duplicates.{has_name}

pub in_cons : {X : Type 0} (y : X) (ys : List X) (x : X) → Contains (y ∷ ys) x → (y ≡ x) ⊎ Contains ys x
in_cons y ys x (zero, l, e) = inl e
in_cons y ys x (suc k, l, e) = inr (k, omega (arith, l), e)

pub in_none : {X : Type 0} (x : X) → Contains [] x → ⊥
in_none x c = omega (arith, c.1)

pub first : {X : Type 0} (x : X) (xs : List X) → Contains (x ∷ xs) x
first x xs = (0, omega arith, refl)

pub later : {X : Type 0} (y : X) (xs : List X) (x : X) → Contains xs x → Contains (y ∷ xs) x
later y xs x (k, l, e) = (suc k, omega (arith, l), e)

pub and_both : (a b : Bool) → (a && b) ≡ true → (a ≡ true) × (b ≡ true)
and_both true b e = (refl, e)
and_both false b e = cc

pub or_either : (a b : Bool) → (a || b) ≡ true → (a ≡ true) ⊎ (b ≡ true)
or_either true b e = inl refl
or_either false b e = inr e

pub same_name : (a b : Name) → nat_eq a.0 b.0 ≡ true → a ≡ b
same_name a b e = ap (λ (n : ℕ). record { 0 = n }) (numbers a.0 b.0 e) where
  numbers : (m n : ℕ) → nat_eq m n ≡ true → m ≡ n
  numbers m n h = grind arith

pub itself_named : (a : Name) → nat_eq a.0 a.0 ≡ true
itself_named a = grind arith

pub or_left : (a b : Bool) → a ≡ true → (a || b) ≡ true
or_left true b e = refl
or_left false b e = cc

pub or_right : (a b : Bool) → b ≡ true → (a || b) ≡ true
or_right true b e = refl
or_right false b e = e

has_either : (y : Name) (ys : List Name) (x : Name) → (y ≡ x) ⊎ (has_name ys x ≡ true) → has_name (y ∷ ys) x ≡ true
has_either y ys x (inl e) = or_left (nat_eq y.0 x.0) (has_name ys x) (subst (λ (n : Name). nat_eq y.0 n.0 ≡ true) e (itself_named y))
has_either y ys x (inr h) = or_right (nat_eq y.0 x.0) (has_name ys x) h

pub second : {A B C : Type 0} → (B → C) → A ⊎ B → A ⊎ C
second f (inl a) = inl a
second f (inr b) = inr (f b)

pub has_from : (names : List Name) (x : Name) → Contains names x → has_name names x ≡ true
has_from [] x c = absurd (in_none x c)
has_from (y ∷ ys) x c = has_either y ys x (second (λ (h : Contains ys x). has_from ys x h) (in_cons y ys x c))

contains_either : (y : Name) (ys : List Name) (x : Name) → (nat_eq y.0 x.0 ≡ true) ⊎ Contains ys x → Contains (y ∷ ys) x
contains_either y ys x (inl h) = subst (Contains (y ∷ ys)) (same_name y x h) (first y ys)
contains_either y ys x (inr h) = later y ys x h

pub has_in : (names : List Name) (x : Name) → has_name names x ≡ true → Contains names x
has_in [] x e = cc
has_in (y ∷ ys) x e = contains_either y ys x (second (λ (h : has_name ys x ≡ true). has_in ys x h) (or_either (nat_eq y.0 x.0) (has_name ys x) e))

abbrev pub implies : Bool → Bool → Bool
implies true b = b
implies false b = true

pub implied : (a b : Bool) → implies a b ≡ true → a ≡ true → b ≡ true
implied true b e h = e
implied false b e h = cc

pub passes : {X : Type 0} (t : X → Bool) (xs : List X) (x : X) → list_all t xs ≡ true → Contains xs x → t x ≡ true
passes t xs x e c = All-contains (λ y. t y ≡ true) xs x (AllPass-from_list_all t xs e) c
