-- Each path of the universe has a home.
use Rattle.std.proofs.Common.{◌≡◌, ◌<◌, ℕ, List, [], ◌∷◌, ◌++◌, zero, suc, drop, refl, sym, subst, Bool, true, false, nat_eq, ◌⊎◌, inl, inr, arith, Contains}
use Rattle.std.proofs.lemmas.List.Elements.{Contains-append_left, Contains-append_right, Contains-append_cases}
use Rattle.jn_base.specs.declared.tree.Name.{Name}
use Rattle.jn_base.specs.declared.tree.Program.{Program}
use Rattle.jn_base.specs.declared.tree.Decl.{Decl}
use Rattle.jn_base.specs.Paths.{Path, nested, StandsIn, Declared}
use Rattle.jn_base.specs.Universe.{InUniverse}
use Rattle.jn_base.specs.LawsOfTable.{HasHome}
use Rattle.jn_base.proofs.NameTests.{in_cons, in_none, first, later, same_name, itself_named}
use Rattle.jn_base.proofs.SuperLaws.{sup_root}

-- whether names are the same
data Same (a b : Name) : Type 0 where
  same : a ≡ b → Same a b
  other : (a ≡ b → ⊥) → Same a b

compare : (a b : Name) (t : Bool) → nat_eq a.0 b.0 ≡ t → Same a b
compare a b true e = same (same_name a b e)
compare a b false e = other (λ h. clash (nat_eq a.0 b.0) e (subst (λ (n : Name). nat_eq a.0 n.0 ≡ true) h (itself_named a))) where
  clash : (t : Bool) → t ≡ false → t ≡ true → ⊥
  clash true h k = cc h
  clash false h k = cc k

-- the declarations of the name C in the list, or there are none
record Named (C : Name) (ds : List Decl) : Type 0 where
  decl : Decl
  among : Contains ds decl
  name : decl.name.name ≡ C

abbrev Unnamed : Name → List Decl → Type 0
Unnamed C ds = (d : Decl) → Contains ds d → d.name.name ≡ C → ⊥

search_first : (C : Name) (d : Decl) (ds : List Decl) → Same d.name.name C → Named C ds ⊎ Unnamed C ds → Named C (d ∷ ds) ⊎ Unnamed C (d ∷ ds)
search_first C d ds (same e) h = inl (record { decl = d; among = first d ds; name = e })
search_first C d ds (other n) (inl h) = inl (record { decl = h.decl; among = later d ds h.decl h.among; name = h.name })
search_first C d ds (other n) (inr u) = inr (λ f c e. neither f e (in_cons d ds f c)) where
  neither : (f : Decl) → f.name.name ≡ C → (d ≡ f) ⊎ Contains ds f → ⊥
  neither f e (inl h) = n (subst (λ (g : Decl). g.name.name ≡ C) (sym h) e)
  neither f e (inr k) = u f k e

searched : (C : Name) (ds : List Decl) → Named C ds ⊎ Unnamed C ds
searched C [] = inr (λ d c e. in_none d c)
searched C (d ∷ ds) = search_first C d ds (compare d.name.name C (nat_eq d.name.name.0 C.0) refl) (searched C ds)

-- the declarations that stand in a namespace, as a list
with_nested : {C : Name} (d : Decl) → Same d.name.name C → List Decl → List Decl
with_nested d (same e) ds = nested d.members ++ ds
with_nested d (other n) ds = ds

inside : Name → List Decl → List Decl
inside C [] = []
inside C (d ∷ ds) = with_nested d (compare d.name.name C (nat_eq d.name.name.0 C.0) refl) (inside C ds)

into_head : (C : Name) (e d : Decl) (ds : List Decl) (s : Same e.name.name C) → e.name.name ≡ C → Contains (nested e.members) d → Contains (with_nested e s ds) d
unfolding with_nested
into_head C e d ds (same h) q c = Contains-append_left (nested e.members) ds d c
into_head C e d ds (other n) q c = absurd (n q)

into_tail : (C : Name) (x d : Decl) (ds : List Decl) (s : Same x.name.name C) → Contains ds d → Contains (with_nested x s ds) d
unfolding with_nested
into_tail C x d ds (same h) c = Contains-append_right (nested x.members) ds d c
into_tail C x d ds (other n) c = c

into_by : (C : Name) (x e d : Decl) (ds : List Decl) (s : Same x.name.name C) → e.name.name ≡ C → Contains (nested e.members) d
    → (Contains ds e → Contains (inside C ds) d) → (x ≡ e) ⊎ Contains ds e → Contains (with_nested x s (inside C ds)) d
into_by C x e d ds s q n k (inl h) =
    into_head C x d (inside C ds) s (subst (λ (f : Decl). f.name.name ≡ C) (sym h) q) (subst (λ (f : Decl). Contains (nested f.members) d) (sym h) n)
into_by C x e d ds s q n k (inr h) = into_tail C x d (inside C ds) s (k h)

into_inside : (C : Name) (ds : List Decl) (e d : Decl) → Contains ds e → e.name.name ≡ C → Contains (nested e.members) d → Contains (inside C ds) d
unfolding inside
into_inside C [] e d c q n = absurd (in_none e c)
into_inside C (x ∷ ds) e d c q n =
    into_by C x e d ds (compare x.name.name C (nat_eq x.name.name.0 C.0) refl) q n (λ h. into_inside C ds e d h q n) (in_cons x ds e c)

-- one of the name C in the list has d nested in it
record Around (C : Name) (ds : List Decl) (d : Decl) : Type 0 where
  outer : Decl
  among : Contains ds outer
  name : outer.name.name ≡ C
  has : Contains (nested outer.members) d

around_later : {C : Name} {d : Decl} (x : Decl) (ds : List Decl) → Around C ds d → Around C (x ∷ ds) d
around_later x ds a = record { outer = a.outer; among = later x ds a.outer a.among; name = a.name; has = a.has }

around_by : (C : Name) (d : Decl) (x : Decl) (ds : List Decl) → x.name.name ≡ C → Contains (nested x.members) d ⊎ Around C ds d → Around C (x ∷ ds) d
around_by C d x ds e (inl c) = record { outer = x; among = first x ds; name = e; has = c }
around_by C d x ds e (inr a) = around_later x ds a

around_head : (C : Name) (d : Decl) (x : Decl) (ds : List Decl) (s : Same x.name.name C) → (Contains (inside C ds) d → Around C ds d)
    → Contains (with_nested x s (inside C ds)) d → Around C (x ∷ ds) d
unfolding with_nested
around_head C d x ds (same e) k c = around_by C d x ds e (by_part (Contains-append_cases (nested x.members) (inside C ds) d c)) where
  by_part : Contains (nested x.members) d ⊎ Contains (inside C ds) d → Contains (nested x.members) d ⊎ Around C ds d
  by_part (inl h) = inl h
  by_part (inr h) = inr (k h)
around_head C d x ds (other n) k c = around_later x ds (k c)

from_inside : (C : Name) (ds : List Decl) (d : Decl) → Contains (inside C ds) d → Around C ds d
unfolding inside
from_inside C [] d c = absurd (in_none d c)
from_inside C (x ∷ ds) d c = around_head C d x ds (compare x.name.name C (nat_eq x.name.name.0 C.0) refl) (λ h. from_inside C ds d h) c

standing : Program → Path → List Decl
standing p [] = p.decls
standing p (C ∷ P) = inside C (standing p P)

stands_to : (p : Program) (P : Path) (d : Decl) → StandsIn p P d → Contains (standing p P) d
unfolding standing
stands_to p [] d s = s
stands_to p (C ∷ P) d s = into_inside C (standing p P) s.0 d (stands_to p P s.0 s.1) s.2 s.3

stands_from : (p : Program) (P : Path) (d : Decl) → Contains (standing p P) d → StandsIn p P d
unfolding standing
stands_from p [] d c = c
stands_from p (C ∷ P) d c =
    let a = from_inside C (standing p P) d c in
    (a.outer, stands_from p P a.outer a.among, a.name, a.has)

declared_by : (p : Program) (C : Name) (P : Path) → Named C (standing p P) ⊎ Unnamed C (standing p P) → Declared p (C ∷ P) ⊎ (Declared p (C ∷ P) → ⊥)
declared_by p C P (inl n) = inl (record { decl = n.decl; stands = (stands_from p P n.decl n.among, n.name) })
declared_by p C P (inr u) = inr (λ x. u x.decl (stands_to p P x.decl x.stands.0) x.stands.1)

declared_or : (p : Program) (C : Name) (P : Path) → Declared p (C ∷ P) ⊎ (Declared p (C ∷ P) → ⊥)
declared_or p C P = declared_by p C P (searched C (standing p P))

own_home : (p : Program) (R : Path) → Declared p R → HasHome p R
own_home p R x = record {
  at = x.decl.name.at;
  home = record { off = 0; decl = x.decl; stands = x.stands; longest = λ k l. absurd (omega (arith, l)); is = refl };
}

outer_home : (p : Program) (C : Name) (P : Path) → (Declared p (C ∷ P) → ⊥) → HasHome p P → HasHome p (C ∷ P)
outer_home p C P n h = record {
  at = h.at;
  home = record { off = suc h.home.off; decl = h.home.decl; stands = h.home.stands; longest = longest; is = h.home.is };
} where
  longest : (k : ℕ) → k < suc h.home.off → Declared p (drop k (C ∷ P)) → ⊥
  longest zero l x = n x
  longest (suc k) l x = h.home.longest k (omega (arith, l)) x

home_by : (p : Program) (C : Name) (P : Path) → HasHome p P → Declared p (C ∷ P) ⊎ (Declared p (C ∷ P) → ⊥) → HasHome p (C ∷ P)
home_by p C P h (inl x) = own_home p (C ∷ P) x
home_by p C P h (inr n) = outer_home p C P n h

pub home_of : (p : Program) (R : Path) → InUniverse p R → HasHome p R
home_of p [] u = absurd u
home_of p (A ∷ []) u = own_home p (A ∷ []) (subst (λ (Q : Path). Declared p (A ∷ Q)) (sup_root u.1.super) u.1.declared)
home_of p (C ∷ B ∷ P) u = home_by p C (B ∷ P) (home_of p (B ∷ P) u.0) (declared_or p C (B ∷ P))
