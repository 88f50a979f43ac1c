-- The newest variable of a path, variable by variable.
use Rattle.std.proofs.Common.{◌≡◌, ◌<◌, ◌≤◌, ◌+◌, ℕ, zero, suc, List, [], ◌∷◌, ◌++◌, map, reverse, take, slice_get}
use Rattle.std.proofs.Common.{Some, None, Option, refl, sym, ap, ◌∙◌, subst, arith, add-one, cond, nat_eq, true, false}
use Rattle.std.proofs.Common.{Bool, length}
use Rattle.std.specs.Prelude.{IfSome}
use Rattle.std.proofs.lemmas.List.{reverse-append}
use Rattle.std.proofs.lemmas.Bool.Decides.{nat_tests}
use Rattle.jn_reach.proofs.Searches.{same_some}
use Rattle.jn_base.specs.declared.names.Var.{Var}
use Rattle.jn_base.specs.Paths.{Path}
use Rattle.jn_base.specs.Atoms.{atoms_in, first_at}
use Rattle.jn_base.specs.Scopes.{Scope, Bind, bound_of, this_bind}
use Rattle.jn_base.specs.Resolve.{var_bind}
use Rattle.jn_names.specs.Scoped.{scope_from, NewestTo}

take_at : {A : Type 0} (xs : List A) (i : ℕ) (x : A) → slice_get xs i ≡ Some x → take (suc i) xs ≡ take i xs ++ x ∷ []
take_at [] i x e = absurd (cc e)
take_at (y ∷ xs) zero x e = let h : y ≡ x = cc e in ap (λ z. z ∷ []) h
take_at (y ∷ xs) (suc i) x e = ap (λ zs. y ∷ zs) (take_at xs i x e)

-- the elements before i and the one at i
pub take_one : {A : Type 0} (xs : List A) (i : ℕ) (x : A) → slice_get xs i ≡ Some x → take (i + 1) xs ≡ take i xs ++ x ∷ []
take_one xs i x e = ap (λ (n : ℕ). take n xs) (add-one i) ∙ take_at xs i x e

pub map_both : {A B : Type 0} (f : A → B) (xs ys : List A) → map f (xs ++ ys) ≡ map f xs ++ map f ys
map_both f [] ys = refl
map_both f (x ∷ xs) ys = ap (λ zs. f x ∷ zs) (map_both f xs ys)

pub scope_more : (Q : Path) (vs : List Var) (v : Var) → scope_from Q (vs ++ v ∷ []) ≡ var_bind v ∷ scope_from Q vs
scope_more Q vs v =
    ap (λ (bs : List Bind). reverse (this_bind Q ∷ bs)) (map_both var_bind vs (v ∷ []))
    ∙ reverse-append (this_bind Q ∷ map var_bind vs) (var_bind v ∷ [])

module _ (vs : List Var) (q n : ℕ) (v : Var) (at : slice_get vs n ≡ Some v) where
  one_more : (Q : Path) → bound_of (scope_from Q (take (n + 1) vs)) q
      ≡ cond (nat_eq q v.path) (first_at (bound_of (scope_from Q (take n vs))) (atoms_in v.ty))
      (bound_of (scope_from Q (take n vs)) q)
  one_more Q =
      ap (λ (xs : List Var). bound_of (scope_from Q xs) q) (take_one vs n v at)
      ∙ ap (λ (s : Scope). bound_of s q) (scope_more Q (take n vs) v)

  by_test : (Q : Path) (b : Bool) → nat_eq q v.path ≡ b → bound_of (scope_from Q (take (n + 1) vs)) q
      ≡ cond b (first_at (bound_of (scope_from Q (take n vs))) (atoms_in v.ty)) (bound_of (scope_from Q (take n vs)) q)
  by_test Q b e =
      one_more Q ∙ ap (λ (c : Bool). cond c (first_at (bound_of (scope_from Q (take n vs))) (atoms_in v.ty))
      (bound_of (scope_from Q (take n vs)) q)) e

  pub newest_here : nat_eq q v.path ≡ true → NewestTo vs q (n + 1) (Some n)
  newest_here e =
      λ Q w h. by_test Q true e ∙ ap (λ (x : Var). first_at (bound_of (scope_from Q (take n vs))) (atoms_in x.ty))
      (same_some (slice_get vs n) v w at h)

  pub newest_before : (o : Option ℕ) → nat_eq q v.path ≡ false → NewestTo vs q n o → NewestTo vs q (n + 1) o
  newest_before None e h = λ Q. by_test Q false e ∙ h Q
  newest_before (Some i) e h = λ Q w k. by_test Q false e ∙ h Q w k

pub newest_none : (vs : List Var) (q : ℕ) → NewestTo vs q 0 None
newest_none vs q = λ Q. refl

pub within_more : (i n : ℕ) (o : Option ℕ) → n ≡ i + 1 → IfSome o (λ k. k < i) → IfSome o (λ k. k < n)
within_more i n None e h = tt
within_more i n (Some k) e h = omega (arith, e, h)

pub within_all : (i n : ℕ) (o : Option ℕ) → i ≤ n → IfSome o (λ k. k < i) → IfSome o (λ k. k < n)
within_all i n None e h = tt
within_all i n (Some k) e h = omega (arith, e, h)

pub newest_all : (vs : List Var) (q i : ℕ) (o : Option ℕ) → i ≤ length vs → length vs ≤ i → NewestTo vs q i o
    → NewestTo vs q (length vs) o
newest_all vs q i o l m h = let e : i ≡ length vs = omega arith in subst (λ (n : ℕ). NewestTo vs q n o) e h

pub other_path : (a q : ℕ) → (a ≡ q → ⊥) → nat_eq q a ≡ false
other_path a q n = grind (arith, nat_tests)

pub same_path : (a q : ℕ) → a ≡ q → nat_eq q a ≡ true
same_path a q n = grind (arith, nat_tests)

module _ (vs : List Var) (q i : ℕ) (v : Var) (o f : Option ℕ) (at : slice_get vs i ≡ Some v) where
  pub found_here : v.path ≡ q → f ≡ Some i → (IfSome f (λ k. k < i + 1)) × NewestTo vs q (i + 1) f
  found_here e k =
      subst (λ (x : Option ℕ). (IfSome x (λ k. k < i + 1)) × NewestTo vs q (i + 1) x) (sym k)
      (omega arith, newest_here vs q i v at (same_path v.path q e))

  pub found_before : (v.path ≡ q → ⊥) → f ≡ o → IfSome o (λ k. k < i) → NewestTo vs q i o
      → (IfSome f (λ k. k < i + 1)) × NewestTo vs q (i + 1) f
  found_before n k w h =
      subst (λ (x : Option ℕ). (IfSome x (λ k. k < i + 1)) × NewestTo vs q (i + 1) x) (sym k)
      (within_more i (i + 1) o refl w, newest_before vs q i v at o (other_path v.path q n) h)
