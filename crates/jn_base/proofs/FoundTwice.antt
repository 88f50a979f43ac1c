-- The duplicates of a program are what stands twice.
use Rattle.std.proofs.Common.{◌≡◌, List, [], ◌∷◌, ◌++◌, sym, ap, ◌∙◌, subst, true, ◌⊎◌, inl, inr, Contains, map}
use Rattle.std.specs.List.{list_any}
use Rattle.std.proofs.lemmas.List.Elements.{Contains-append_left, Contains-append_right, Contains-append_cases}
use Rattle.jn_base.specs.declared.tree.Member.{Member, out-Member}
use Rattle.jn_base.specs.declared.refusal.Refusal.{Refusal}
use Rattle.jn_base.specs.Paths.{Path}
use Rattle.jn_base.specs.Duplicates.{only_if, Given, same_given, in_members, in_member, duplicate}
use Rattle.jn_base.proofs.NameTests.{in_cons, in_none, first, later}
use Rattle.jn_base.proofs.Seconds.{only_has, only_from}
use Rattle.jn_base.proofs.GivenTwice.{GivenTwice, given_hit, given_next}
use Rattle.jn_base.proofs.Unique.{gives, givens, given_is}

-- ---- lists

pub mapped : {X Y : Type 0} (f : X → Y) (xs : List X) (x : X) → Contains xs x → Contains (map f xs) (f x)
mapped f [] x c = absurd (in_none x c)
mapped f (y ∷ ys) x c = by_place (in_cons y ys x c) (λ h. mapped f ys x h) where
  by_place : (y ≡ x) ⊎ Contains ys x → (Contains ys x → Contains (map f ys) (f x)) → Contains (map f (y ∷ ys)) (f x)
  by_place (inl e) k = subst (λ z. Contains (map f (y ∷ ys)) (f z)) e (first (f y) (map f ys))
  by_place (inr h) k = later (f y) (map f ys) (f x) (k h)

pub record Mapped {X Y : Type 0} (f : X → Y) (xs : List X) (y : Y) : Type 0 where
  pub x : X
  pub among : Contains xs x
  pub is : y ≡ f x

unmapped_later : {X Y : Type 0} (f : X → Y) (z : X) (xs : List X) (y : Y) → Mapped f xs y → Mapped f (z ∷ xs) y
unmapped_later f z xs y m = record { x = m.x; among = later z xs m.x m.among; is = m.is }

pub unmapped : {X Y : Type 0} (f : X → Y) (xs : List X) (y : Y) → Contains (map f xs) y → Mapped f xs y
unmapped f [] y c = absurd (in_none y c)
unmapped f (z ∷ xs) y c = by_place (in_cons (f z) (map f xs) y c) (λ h. unmapped f xs y h) where
  by_place : (f z ≡ y) ⊎ Contains (map f xs) y → (Contains (map f xs) y → Mapped f xs y) → Mapped f (z ∷ xs) y
  by_place (inl e) k = record { x = z; among = first z xs; is = sym e }
  by_place (inr h) k = unmapped_later f z xs y (k h)

-- ---- members

-- what is found in the members of a body: given twice, or inside one of them
pub data FoundIn (R : Path) (before : List Given) (ms : List Member) (r : Refusal) : Type 0 where
  by_given : (g : Given) → GivenTwice before (givens ms) g → r ≡ duplicate R g.name → FoundIn R before ms r
  by_member : (m : Member) → Contains ms m → Contains ((in_member m).inside R) r → FoundIn R before ms r

found_next : {R : Path} {before : List Given} {ms : List Member} {r : Refusal} (m : Member) → FoundIn R (gives (out-Member m) ∷ before) ms r → FoundIn R before (m ∷ ms) r
unfolding givens
found_next m (by_given g t e) = by_given g (given_next t) e
found_next {ms = ms} m (by_member k c h) = by_member k (later m ms k c) h

found_by : (R : Path) (before : List Given) (m : Member) (ms : List Member) (r : Refusal)
    → (Contains (in_members R (gives (out-Member m) ∷ before) (map in_member ms)) r → FoundIn R (gives (out-Member m) ∷ before) ms r)
    → Contains (only_if (list_any (same_given (in_member m).given) before) (duplicate R (in_member m).given.name ∷ [])) r
    ⊎ (Contains ((in_member m).inside R) r ⊎ Contains (in_members R ((in_member m).given ∷ before) (map in_member ms)) r)
    → FoundIn R before (m ∷ ms) r
unfolding givens
found_by R before m ms r ih (inl c) =
    let o = only_has (list_any (same_given (in_member m).given) before) (duplicate R (in_member m).given.name) r c in
    let t = subst (λ (g : Given). list_any (same_given g) before ≡ true) (given_is m) o.0 in
    by_given (gives (out-Member m)) (given_hit t) (sym o.1 ∙ ap (λ (g : Given). duplicate R g.name) (given_is m))
found_by R before m ms r ih (inr (inl c)) = by_member m (first m ms) c
found_by R before m ms r ih (inr (inr c)) =
    found_next m (ih (subst (λ (g : Given). Contains (in_members R (g ∷ before) (map in_member ms)) r) (given_is m) c))

pub three : {X : Type 0} (xs ys zs : List X) (x : X) → Contains (xs ++ (ys ++ zs)) x → Contains xs x ⊎ (Contains ys x ⊎ Contains zs x)
three xs ys zs x c = by_part (Contains-append_cases xs (ys ++ zs) x c) where
  by_part : Contains xs x ⊎ Contains (ys ++ zs) x → Contains xs x ⊎ (Contains ys x ⊎ Contains zs x)
  by_part (inl h) = inl h
  by_part (inr h) = inr (Contains-append_cases ys zs x h)

pub members_found : (R : Path) (before : List Given) (ms : List Member) (r : Refusal) → Contains (in_members R before (map in_member ms)) r → FoundIn R before ms r
members_found R before [] r c = absurd (in_none r c)
members_found R before (m ∷ ms) r c =
    found_by R before m ms r (λ k. members_found R (gives (out-Member m) ∷ before) ms r k)
    (three (only_if (list_any (same_given (in_member m).given) before) (duplicate R (in_member m).given.name ∷ [])) ((in_member m).inside R)
    (in_members R ((in_member m).given ∷ before) (map in_member ms)) r c)

-- and the other way
module _ (R : Path) (before : List Given) (m : Member) (ms : List Member) (r : Refusal) where
  own : List Refusal
  own = only_if (list_any (same_given (in_member m).given) before) (duplicate R (in_member m).given.name ∷ [])

  from_own : Contains own r → Contains (in_members R before (map in_member (m ∷ ms))) r
  unfolding own
  from_own c = Contains-append_left own ((in_member m).inside R ++ in_members R ((in_member m).given ∷ before) (map in_member ms)) r c

  from_inside : Contains ((in_member m).inside R) r → Contains (in_members R before (map in_member (m ∷ ms))) r
  unfolding own
  from_inside c =
      Contains-append_right own ((in_member m).inside R ++ in_members R ((in_member m).given ∷ before) (map in_member ms)) r
      (Contains-append_left ((in_member m).inside R) (in_members R ((in_member m).given ∷ before) (map in_member ms)) r c)

  from_rest : Contains (in_members R (gives (out-Member m) ∷ before) (map in_member ms)) r → Contains (in_members R before (map in_member (m ∷ ms))) r
  unfolding own
  from_rest c =
      Contains-append_right own ((in_member m).inside R ++ in_members R ((in_member m).given ∷ before) (map in_member ms)) r
      (Contains-append_right ((in_member m).inside R) (in_members R ((in_member m).given ∷ before) (map in_member ms)) r
      (subst (λ (g : Given). Contains (in_members R (g ∷ before) (map in_member ms)) r) (sym (given_is m)) c))

own_from : (R : Path) (before : List Given) (m : Member) (ms : List Member) → list_any (same_given (in_member m).given) before ≡ true
    → Contains (own R before m ms (duplicate R (in_member m).given.name)) (duplicate R (in_member m).given.name)
unfolding own
own_from R before m ms t = only_from (list_any (same_given (in_member m).given) before) (duplicate R (in_member m).given.name) t

pub given_found : (R : Path) (before : List Given) (ms : List Member) (gs : List Given) (g : Given) → GivenTwice before gs g → givens ms ≡ gs
    → Contains (in_members R before (map in_member ms)) (duplicate R g.name)
unfolding givens
given_found R before [] gs g (given_hit e) q = cc
given_found R before [] gs g (given_next t) q = cc
given_found R before (m ∷ ms) gs g (given_hit {gs = rest} e) q =
    let is : gives (out-Member m) ≡ g = cc q in
    let t = subst (λ (x : Given). list_any (same_given x) before ≡ true) (sym (given_is m ∙ is)) e in
    subst (λ (x : Given). Contains (in_members R before (map in_member (m ∷ ms))) (duplicate R x.name)) (given_is m ∙ is)
    (from_own R before m ms (duplicate R (in_member m).given.name) (own_from R before m ms t))
given_found R before (m ∷ ms) gs g (given_next {gs = rest} {h = h} t) q =
    let is : gives (out-Member m) ≡ h = cc q in
    let rest_is : givens ms ≡ rest = cc q in
    from_rest R before m ms (duplicate R g.name)
    (subst (λ (x : Given). Contains (in_members R (x ∷ before) (map in_member ms)) (duplicate R g.name)) (sym is) (given_found R (h ∷ before) ms rest g t rest_is))

pub member_found : (R : Path) (before : List Given) (ms : List Member) (m : Member) (r : Refusal) → Contains ms m → Contains ((in_member m).inside R) r
    → Contains (in_members R before (map in_member ms)) r
member_found R before [] m r c h = absurd (in_none m c)
member_found R before (x ∷ ms) m r c h = by_place (in_cons x ms m c) (λ k. member_found R (gives (out-Member x) ∷ before) ms m r k h) where
  by_place : (x ≡ m) ⊎ Contains ms m → (Contains ms m → Contains (in_members R (gives (out-Member x) ∷ before) (map in_member ms)) r)
      → Contains (in_members R before (map in_member (x ∷ ms))) r
  by_place (inl e) k = from_inside R before x ms r (subst (λ (y : Member). Contains ((in_member y).inside R) r) (sym e) h)
  by_place (inr c) k = from_rest R before x ms r (k c)
