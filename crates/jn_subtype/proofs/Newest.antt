-- The newest bind of a path, bind by bind.
use Rattle.std.proofs.Common.{◌≡◌, ◌<◌, ◌≤◌, ◌+◌, ℕ, zero, suc, List, [], ◌∷◌, ◌++◌, map, reverse, take, drop, slice_get, get_or, Some, None, Option, refl, sym, ap, ◌∙◌, subst, arith, add-one, cond, nat_eq, true, false, Bool, length}
use Rattle.std.specs.Prelude.{IfNone, IfSome}
use Rattle.std.proofs.lemmas.List.{reverse-reverse}
use Rattle.std.proofs.Math.Seq.{take-length}
use Rattle.std.proofs.lemmas.Bool.Decides.{nat_tests}
use Rattle.jn_reach.proofs.Searches.{same_some}
use Rattle.jn_names.proofs.Turned.{turned_one}
use Rattle.jn_base.specs.declared.types.Ty.{Ty}
use Rattle.jn_base.specs.Atoms.{atoms_in, first_at, Among, first, later}
use Rattle.jn_base.specs.Scopes.{Bind as TypeBind, Scope as TypeScope, bound_of}
use Rattle.jn_base.specs.Fits.{BindsFit}
use Rattle.jn_sem.proofs.Codes.{among_reversed}
use Rattle.jn_sem.proofs.NormalTypes.{among_map, map_among}
use Rattle.jn_intern.specs.declared.scope.Bind.{Bind}
use Rattle.jn_intern.specs.Places.{IsAt, Lacks}
use Rattle.jn_intern.proofs.Standing.{types_split}
use Rattle.jn_normal.proofs.Turning.{NoneOf, none_before, lacks_types}
use Rattle.jn_intern.specs.Pools.{bind_in, shown}
use Rattle.jn_subtype.specs.Binds.{binds_in}
use Rattle.jn_subtype.specs.Newest.{BoundAt, NewestTo, IsNewest, EachOnce}

take_at : {A : Type 0} (xs : List A) (i : ℕ) (x : A) → slice_get xs i ≡ Some x → take (suc i) xs ≡ take i xs ++ x ∷ []
take_at [] i x e = absurd (cc e)
take_at (y ∷ xs) zero x e = let h : y ≡ x = cc e in ap (λ z. z ∷ []) h
take_at (y ∷ xs) (suc i) x e = ap (λ zs. y ∷ zs) (take_at xs i x e)

-- what stands at a place within the list
pub read_at : {A : Type 0} (xs : List A) (i : ℕ) (d : A) → i < length xs → slice_get xs i ≡ Some (get_or xs i d)
read_at [] i d l = absurd (omega (arith, l))
read_at (x ∷ xs) zero d l = refl
read_at (x ∷ xs) (suc i) d l = read_at xs i d (omega (arith, l))

map_both : {A B : Type 0} (f : A → B) (xs ys : List A) → map f (xs ++ ys) ≡ map f xs ++ map f ys
map_both f [] ys = refl
map_both f (x ∷ xs) ys = ap (λ zs. f x ∷ zs) (map_both f xs ys)

-- the binds before i and the one at i
binds_more : (pool : List Ty) (bs : List Bind) (i : ℕ) (b : Bind) → slice_get bs i ≡ Some b
    → binds_in pool (take (i + 1) bs) ≡ bind_in pool b ∷ binds_in pool (take i bs)
binds_more pool bs i b e =
    ap (λ (n : ℕ). binds_in pool (take n bs)) (add-one i) ∙ ap (binds_in pool) (take_at bs i b e)
    ∙ ap (λ (cs : List TypeBind). reverse cs) (map_both (bind_in pool) (take i bs) (b ∷ []))
    ∙ turned_one (map (bind_in pool) (take i bs)) (bind_in pool b)

module _ (bs : List Bind) (q n : ℕ) (b : Bind) (at : slice_get bs n ≡ Some b) where
  by_test : (pool : List Ty) (t : Bool) → nat_eq q b.path ≡ t → bound_of (binds_in pool (take (n + 1) bs)) q
      ≡ cond t (first_at (bound_of (binds_in pool (take n bs))) (atoms_in (shown pool b.ty))) (bound_of (binds_in pool (take n bs)) q)
  by_test pool t e =
      ap (λ (s : TypeScope). bound_of s q) (binds_more pool bs n b at)
      ∙ ap (λ (c : Bool). cond c (first_at (bound_of (binds_in pool (take n bs))) (atoms_in (shown pool b.ty))) (bound_of (binds_in pool (take n bs)) q)) e

  newest_here : nat_eq q b.path ≡ true → NewestTo bs q (n + 1) (Some n)
  newest_here e = λ pool w h. by_test pool true e
      ∙ ap (λ (x : Bind). first_at (bound_of (binds_in pool (take n bs))) (atoms_in (shown pool x.ty))) (same_some (slice_get bs n) b w at h)

  newest_before : (o : Option ℕ) → nat_eq q b.path ≡ false → NewestTo bs q n o → NewestTo bs q (n + 1) o
  newest_before None e h = λ pool. by_test pool false e ∙ h pool
  newest_before (Some i) e h = λ pool w k. by_test pool false e ∙ h pool w k

pub newest_none : (bs : List Bind) (q : ℕ) → NewestTo bs q 0 None
newest_none bs q = λ pool. refl

within_more : (i n : ℕ) (o : Option ℕ) → n ≡ i + 1 → IfSome o (λ k. k < i) → IfSome o (λ k. k < n)
within_more i n None e h = tt
within_more i n (Some k) e h = omega (arith, e, h)

pub within_all : (i n : ℕ) (o : Option ℕ) → i ≤ n → IfSome o (λ k. k < i) → IfSome o (λ k. k < n)
within_all i n None e h = tt
within_all i n (Some k) e h = omega (arith, e, h)

pub newest_all : (bs : List Bind) (q i : ℕ) (o : Option ℕ) → i ≤ length bs → length bs ≤ i → NewestTo bs q i o → NewestTo bs q (length bs) o
newest_all bs q i o l m h = let e : i ≡ length bs = omega arith in subst (λ (n : ℕ). NewestTo bs q n o) e h

other_path : (a q : ℕ) → (a ≡ q → ⊥) → nat_eq q a ≡ false
other_path a q n = grind (arith, nat_tests)

same_path : (a q : ℕ) → a ≡ q → nat_eq q a ≡ true
same_path a q n = grind (arith, nat_tests)

module _ (bs : List Bind) (q i : ℕ) (b : Bind) (o f : Option ℕ) (at : slice_get bs i ≡ Some b) where
  pub found_here : b.path ≡ q → f ≡ Some i → (IfSome f (λ k. k < i + 1)) × NewestTo bs q (i + 1) f
  found_here e k = subst (λ (x : Option ℕ). (IfSome x (λ k. k < i + 1)) × NewestTo bs q (i + 1) x) (sym k) (omega arith, newest_here bs q i b at (same_path b.path q e))

  pub found_before : (b.path ≡ q → ⊥) → f ≡ o → IfSome o (λ k. k < i) → NewestTo bs q i o → (IfSome f (λ k. k < i + 1)) × NewestTo bs q (i + 1) f
  found_before n k w h =
      subst (λ (x : Option ℕ). (IfSome x (λ k. k < i + 1)) × NewestTo bs q (i + 1) x) (sym k)
      (within_more i (i + 1) o refl w, newest_before bs q i b at o (other_path b.path q n) h)

-- ---- where each path is bound once

none_in : (from to : List Ty) (bs : List Bind) (q : ℕ) → NoneOf (binds_in from bs) q → NoneOf (binds_in to bs) q
none_in from to bs q n c m e =
    let turned : Among (map (bind_in to) bs) c =
    subst (λ (l : List TypeBind). Among l c) (reverse-reverse (map (bind_in to) bs)) (among_reversed (binds_in to bs) c m) in
    let b = map_among (bind_in to) bs c turned in
    n (bind_in from b.0) (among_reversed (map (bind_in from) bs) (bind_in from b.0) (among_map (bind_in from) bs b.0 b.1)) (ap (λ (d : TypeBind). d.path) b.2 ∙ e)

bound_passes : (front s : TypeScope) (q : ℕ) → NoneOf front q → bound_of (front ++ s) q ≡ bound_of s q
bound_passes [] s q n = refl
bound_passes (b ∷ front) s q n =
    ap (λ (c : Bool). cond c (first_at (bound_of (front ++ s)) (atoms_in b.ty)) (bound_of (front ++ s) q)) (other_path b.path q (n b first))
    ∙ bound_passes front s q (λ c m. n c (later m))

unbound : (s : TypeScope) (q : ℕ) → NoneOf s q → bound_of s q ≡ []
unbound [] q n = refl
unbound (b ∷ s) q n =
    ap (λ (c : Bool). cond c (first_at (bound_of s) (atoms_in b.ty)) (bound_of s q)) (other_path b.path q (n b first)) ∙ unbound s q (λ c m. n c (later m))

pub whole_is : (pool : List Ty) (bs : List Bind) → binds_in pool (take (length bs) bs) ≡ binds_in pool bs
whole_is pool bs = ap (binds_in pool) (take-length bs)

-- the only bind of a path is its newest
only_at : (bs : List Bind) (q i : ℕ) → EachOnce bs → IsAt bs q i → BoundAt bs q (length bs) i
only_at bs q i once h = λ pool b at.
    let same : h.bind ≡ b = same_some (slice_get bs i) h.bind b h.at at in
    let path : b.path ≡ q = ap (λ (c : Bind). c.path) (sym same) ∙ h.path in
    let behind : List Bind = drop (suc i) bs in
    let fits : BindsFit (binds_in once.0 behind ++ bind_in once.0 b ∷ binds_in once.0 (take i bs)) = subst BindsFit (types_split once.0 bs i b at) once.1 in
    let none : NoneOf (binds_in once.0 behind) q = λ c m e. none_before (binds_in once.0 behind) (binds_in once.0 (take i bs)) (bind_in once.0 b) fits c m (e ∙ sym path) in
    ap (λ (s : TypeScope). bound_of s q) (whole_is pool bs ∙ types_split pool bs i b at)
    ∙ bound_passes (binds_in pool behind) (bind_in pool b ∷ binds_in pool (take i bs)) q (none_in once.0 pool behind q none)
    ∙ ap (λ (c : Bool). cond c (first_at (bound_of (binds_in pool (take i bs))) (atoms_in (shown pool b.ty))) (bound_of (binds_in pool (take i bs)) q)) (same_path b.path q path)

pub only_newest : (bs : List Bind) (q : ℕ) (o : Option ℕ) → EachOnce bs → IfSome o (IsAt bs q) → IfNone o (Lacks bs q) → IsNewest bs q o
only_newest bs q None once s n = λ pool. ap (λ (t : TypeScope). bound_of t q) (whole_is pool bs) ∙ unbound (binds_in pool bs) q (lacks_types pool bs q n)
only_newest bs q (Some i) once s n = only_at bs q i once s
