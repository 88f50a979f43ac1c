-- Each body stands once in the source, where nothing stands twice in a body.
use Rattle.std.proofs.Common.{◌≡◌, ℕ, zero, suc, List, [], ◌∷◌, ◌++◌, length, length-append, append_assoc, refl, sym, ap, ◌∙◌, subst, ◌⊎◌, inl, inr, Contains, map, Some, None, slice_get, arith}
use Rattle.std.proofs.lemmas.List.Elements.{Contains-append_cases}
use Rattle.jn_base.specs.declared.tree.Name.{Name}
use Rattle.jn_base.specs.declared.tree.Named.{Named}
use Rattle.jn_base.specs.declared.tree.Method.{Method}
use Rattle.jn_base.specs.declared.tree.Program.{Program}
use Rattle.jn_base.specs.declared.tree.Member.{Member, out-Member, roll-Member, out-roll-Member}
use Rattle.jn_base.specs.declared.tree.Member.TheOpen.{Member-F}
use Rattle.jn_base.specs.declared.tree.Member.TheFolds.{map-Member, map-Decl, ind-Decl}
use Rattle.jn_base.specs.declared.tree.Decl.{Decl, roll-Decl}
use Rattle.jn_base.specs.declared.refusal.Refusal.{Refusal}
use Rattle.jn_base.specs.Paths.{Path, nested, and_nested, methods, and_method, StandsIn}
use Rattle.jn_base.specs.Duplicates.{refusal, duplicate, duplicates}
use Rattle.jn_base.specs.Twice.{IsSecond, decl_name, method_name, declaration, method, Twice, at_top, in_body}
use Rattle.jn_base.proofs.NameTests.{in_cons, in_none, first, later}
use Rattle.jn_base.proofs.FoundTwice.{mapped, unmapped}
use Rattle.jn_base.proofs.TreeTwice.{twice_found}
use Rattle.jn_table.proofs.Maps.{in_list}
use Rattle.jn_sem.specs.Does.{Body}
use Rattle.jn_agree.specs.Rows.{of_decl, bodies_of}
use Rattle.jn_layout.specs.Shapes.{bodies_in, all_bodies}
use Rattle.jn_layout.proofs.Adding.{bodies_at_decl, opened}
use Rattle.jn_layout.proofs.BodiesFound.{by_in, body_at, nested_from, method_from}

-- ---- lists in which each thing stands once

abbrev Once : {A : Type 0} → List A → Type 0
Once [] = Unit {0}
Once (x ∷ xs) = (Contains xs x → ⊥) × Once xs

once_places : {A : Type 0} (xs : List A) → Once xs → (j k : ℕ) (x : A) → slice_get xs j ≡ Some x → slice_get xs k ≡ Some x → j ≡ k
once_places [] o j k x a b = absurd (in_none x (in_list [] j x a))
once_places (y ∷ ys) o zero zero x a b = refl
once_places (y ∷ ys) o zero (suc k) x a b = let e : y ≡ x = cc a in absurd (o.0 (subst (Contains ys) (sym e) (in_list ys k x b)))
once_places (y ∷ ys) o (suc j) zero x a b = let e : y ≡ x = cc b in absurd (o.0 (subst (Contains ys) (sym e) (in_list ys j x a)))
once_places (y ∷ ys) o (suc j) (suc k) x a b = ap suc (once_places ys o.1 j k x a b)

once_joined : {A : Type 0} (xs ys : List A) → Once xs → Once ys → ((x : A) → Contains xs x → Contains ys x → ⊥) → Once (xs ++ ys)
once_joined [] ys a b c = b
once_joined (x ∷ xs) ys (n, a) b c = ((λ h. by_part (Contains-append_cases xs ys x h)), once_joined xs ys a b (λ z d e. c z (later x xs z d) e)) where
  by_part : Contains xs x ⊎ Contains ys x → ⊥
  by_part (inl h) = n h
  by_part (inr h) = c x (first x xs) h

-- ---- names of which none is a second one

abbrev Apart : {A : Type 0} → (A → Named) → List A → Type 0
Apart f [] = Unit {0}
Apart {A} f (x ∷ xs) = ((y : A) → Contains xs y → (f x).name ≡ (f y).name → ⊥) × Apart f xs

record Parts {A : Type 0} (xs : List A) (y : A) : Type 0 where
  before : List A
  after : List A
  is : xs ≡ before ++ y ∷ after

parts : {A : Type 0} (xs : List A) (y : A) → Contains xs y → Parts xs y
parts [] y c = absurd (in_none y c)
parts (x ∷ xs) y c = by_place (in_cons x xs y c) (λ d. parts xs y d) where
  by_place : (x ≡ y) ⊎ Contains xs y → (Contains xs y → Parts xs y) → Parts (x ∷ xs) y
  by_place (inl e) f = record { before = []; after = xs; is = ap (λ z. z ∷ xs) e }
  by_place (inr d) f = let r = f d in record { before = x ∷ r.before; after = r.after; is = ap (λ zs. x ∷ zs) r.is }

second_at : {A : Type 0} (f : A → Named) (x : A) (xs : List A) (y : A) → Contains xs y → (f x).name ≡ (f y).name → IsSecond (map f (x ∷ xs)) (f y)
second_at f x xs y c e =
    let s = parts (map f xs) (f y) (mapped f xs y c) in
    record { before = f x ∷ s.before; after = s.after; is = ap (λ zs. f x ∷ zs) s.is; earlier = f x; among = first (f x) s.before; same = e }

second_more : (m : Named) (ms : List Named) (n : Named) → IsSecond ms n → IsSecond (m ∷ ms) n
second_more m ms n i =
    record { before = m ∷ i.before; after = i.after; is = ap (λ zs. m ∷ zs) i.is; earlier = i.earlier; among = later m i.before i.earlier i.among; same = i.same }

apart : {A : Type 0} (f : A → Named) (xs : List A) → ((n : Named) → IsSecond (map f xs) n → ⊥) → Apart f xs
apart f [] h = tt
apart f (x ∷ xs) h = ((λ y c e. h (f y) (second_at f x xs y c e)), apart f xs (λ n i. h n (second_more (f x) (map f xs) n i)))

other_nested : (o : Member-F Member Decl) (ds : List Decl) → Apart decl_name (and_nested o ds) → Apart decl_name ds
other_nested (Member-F.Inner d) ds a = a.1
other_nested (Member-F.Body g) ds a = a
other_nested (Member-F.Slot f) ds a = a

other_methods : (o : Member-F Member Decl) (gs : List Method) → Apart method_name (and_method o gs) → Apart method_name gs
other_methods (Member-F.Inner d) gs a = a
other_methods (Member-F.Body g) gs a = a.1
other_methods (Member-F.Slot f) gs a = a

-- ---- where bodies stand

too_long : (ts : List Name) (b : Name) (R : Path) → R ≡ ts ++ b ∷ R → ⊥
too_long ts b R e =
    let l : length R ≡ length (ts ++ b ∷ R) = ap (λ (xs : List Name). length xs) e in
    let m = length-append ts (b ∷ R) in
    absurd (omega (arith, l, m))

same_end : (ss ts : List Name) (a b : Name) (R : Path) → ss ++ a ∷ R ≡ ts ++ b ∷ R → a ≡ b
same_end [] [] a b R e = cc e
same_end [] (t ∷ ts) a b R e = let h : R ≡ ts ++ b ∷ R = cc e in absurd (too_long ts b R h)
same_end (s ∷ ss) [] a b R e = let h : ss ++ a ∷ R ≡ R = cc e in absurd (too_long ss a R (sym h))
same_end (s ∷ ss) (t ∷ ts) a b R e = let h : ss ++ a ∷ R ≡ ts ++ b ∷ R = cc e in same_end ss ts a b R h

abbrev Under : Path → Path → Type 0
Under R c = (ts : List Name) × (c ≡ ts ++ R)

-- a body of a member of the body of R
abbrev PlaceIn : Member-F Member Decl → Path → Body → Type 0
PlaceIn (Member-F.Inner e) R x = Under (e.name.name ∷ R) x.class
PlaceIn (Member-F.Body g) R x = x ≡ body_at R g
PlaceIn (Member-F.Slot f) R x = ⊥

under : (R : Path) (o : Member-F Member Decl) (x : Body) → PlaceIn o R x → Under R x.class
under R (Member-F.Inner e) x u = (u.0 ++ e.name.name ∷ [], u.1 ∙ sym (append_assoc u.0 (e.name.name ∷ []) R))
under R (Member-F.Body g) x e = ([], ap (λ (y : Body). y.class) e)
under R (Member-F.Slot f) x e = absurd e

abbrev Placed : Path → Member → Type 0
Placed R m = Once (bodies_in m R) × ((x : Body) → Contains (bodies_in m R) x → PlaceIn (out-Member m) R x)

-- two members of a body have no body in common
parted : (R : Path) (ms : List Member) (n : Member) → Contains ms n → (x : Body) (o q : Member-F Member Decl) → out-Member n ≡ q → Apart decl_name (and_nested o (nested ms))
    → Apart method_name (and_method o (methods ms)) → PlaceIn o R x → PlaceIn q R x → ⊥
parted R ms n c x (Member-F.Inner d) (Member-F.Inner e) i a b u v = a.0 e (nested_from ms n e c i) (same_end u.0 v.0 d.name.name e.name.name R (sym u.1 ∙ v.1))
parted R ms n c x (Member-F.Inner d) (Member-F.Body g) i a b u v = too_long u.0 d.name.name R (sym (ap (λ (y : Body). y.class) v) ∙ u.1)
parted R ms n c x (Member-F.Inner d) (Member-F.Slot f) i a b u v = v
parted R ms n c x (Member-F.Body g) (Member-F.Inner e) i a b u v = too_long v.0 e.name.name R (sym (ap (λ (y : Body). y.class) u) ∙ v.1)
parted R ms n c x (Member-F.Body g) (Member-F.Body h) i a b u v = b.0 h (method_from ms n h c i) (ap (λ (y : Body). y.method.name.name) (sym u ∙ v))
parted R ms n c x (Member-F.Body g) (Member-F.Slot f) i a b u v = v
parted R ms n c x (Member-F.Slot f) q i a b u v = u

members_once : (R : Path) (ms : List Member) → ((m : Member) → Contains ms m → Placed R m) → Apart decl_name (nested ms) → Apart method_name (methods ms)
    → Once (all_bodies R (map bodies_in ms))
members_once R [] k a b = tt
members_once R (m ∷ ms) k a b =
    once_joined (bodies_in m R) (all_bodies R (map bodies_in ms)) (k m (first m ms)).0
    (members_once R ms (λ n c. k n (later m ms n c)) (other_nested (out-Member m) (nested ms) a) (other_methods (out-Member m) (methods ms) b))
    (λ x c d.
    let w = by_in bodies_in R ms x d in
    parted R ms w.member w.among x (out-Member m) (out-Member w.member) refl a b ((k m (first m ms)).1 x c) ((k w.member (later m ms w.member w.among)).1 x w.has))

-- ---- of a program in which nothing stands twice

module _ (p : Program) (clean : duplicates p ≡ []) where
  never : (r : Refusal) → Twice p r → ⊥
  never r t = in_none r (subst (λ (xs : List Refusal). Contains xs r) clean (twice_found p r t))

  MemberOnce : Member → Type 0
  MemberOnce m = (R : Path) → ((e : Decl) → out-Member m ≡ Member-F.Inner e → StandsIn p R e) → Placed R m

  DeclOnce : Decl → Type 0
  DeclOnce d = (P : Path) → StandsIn p P d → Once (of_decl d P) × ((x : Body) → Contains (of_decl d P) x → Under (d.name.name ∷ P) x.class)

  bare : Member-F ((m : Member) × MemberOnce m) ((d : Decl) × DeclOnce d) → Member-F Member Decl
  bare = map-Member _ _ _ _ (λ e. e.0) (λ e. e.0)

  by_one : (y x : Body) → (y ≡ x) ⊎ Contains [] x → x ≡ y
  by_one y x (inl e) = sym e
  by_one y x (inr c) = absurd (in_none x c)

  member_once : (y : Member-F ((m : Member) × MemberOnce m) ((d : Decl) × DeclOnce d)) → MemberOnce (roll-Member (bare y))
  unfolding MemberOnce DeclOnce bare
  member_once (Member-F.Inner t) R k =
      let o = out-roll-Member (Member-F.Inner t.0) in
      let q = opened (roll-Member (Member-F.Inner t.0)) (Member-F.Inner t.0) o R in
      let w = t.1 R (k t.0 o) in
      (subst Once (sym q) w.0, λ x h. subst (λ (f : Member-F Member Decl). PlaceIn f R x) (sym o) (w.1 x (subst (λ (l : List Body). Contains l x) q h)))
  member_once (Member-F.Body g) R k =
      let o = out-roll-Member (Member-F.Body g) in
      let q = opened (roll-Member (Member-F.Body g)) (Member-F.Body g) o R in
      let single : Once (body_at R g ∷ []) = ((λ c. in_none (body_at R g) c), tt) in (
        subst Once (sym q) single,
        λ x h. subst (λ (f : Member-F Member Decl). PlaceIn f R x) (sym o) (by_one (body_at R g) x (in_cons (body_at R g) [] x (subst (λ (l : List Body). Contains l x) q h))),
      )
  member_once (Member-F.Slot n) R k =
      let o = out-roll-Member (Member-F.Slot n) in
      let q = opened (roll-Member (Member-F.Slot n)) (Member-F.Slot n) o R in
      let empty : Once {A = Body} [] = tt in
      (subst Once (sym q) empty, λ x h. absurd (in_none x (subst (λ (l : List Body). Contains l x) q h)))

  such_member : (ts : List ((m : Member) × MemberOnce m)) (m : Member) → Contains (map (λ e. e.0) ts) m → MemberOnce m
  such_member ts m c =
      let u = unmapped (λ (e : (m : Member) × MemberOnce m). e.0) ts m c in
      subst MemberOnce (sym u.is) u.x.1

  decl_once : (d : Decl) → ((m : Member) → Contains d.members m → MemberOnce m) → DeclOnce d
  unfolding MemberOnce DeclOnce
  decl_once d k P s =
      let R : Path = d.name.name ∷ P in
      let each : (m : Member) → Contains d.members m → Placed R m = λ m c. k m c R (λ e o. (d, s, refl, nested_from d.members m e c o)) in
      let q = bodies_at_decl d P in (
        subst Once (sym q)
            (members_once R d.members each (apart decl_name (nested d.members) (λ n i. never (duplicate R n) (in_body R d n (s, refl) (declaration i) refl)))
            (apart method_name (methods d.members) (λ n i. never (duplicate R n) (in_body R d n (s, refl) (method i) refl)))),
        λ x c.
            let w = by_in bodies_in R d.members x (subst (λ (l : List Body). Contains l x) q c) in
            under R (out-Member w.member) x ((each w.member w.among).1 x w.has),
      )

  all_once : (d : Decl) → DeclOnce d
  unfolding bare
  all_once = ind-Decl MemberOnce DeclOnce
      (λ x y is. subst (λ z. MemberOnce (roll-Member z)) is (member_once y))
      (λ x y is. subst (λ z. DeclOnce (roll-Decl z)) is
      (decl_once (roll-Decl (map-Decl _ _ _ _ (λ e. e.0) (λ e. e.0) y)) (λ m c. such_member y.members m c)))

  decls_once : (ds : List Decl) → ((d : Decl) → Contains ds d → Contains p.decls d) → Apart decl_name ds → Once (all_bodies [] (map of_decl ds))
  unfolding DeclOnce
  decls_once [] s a = tt
  decls_once (d ∷ ds) s a =
      let own = all_once d [] (s d (first d ds)) in
      once_joined (of_decl d []) (all_bodies [] (map of_decl ds)) own.0 (decls_once ds (λ e c. s e (later d ds e c)) a.1)
      (λ x c h.
      let w = by_in of_decl [] ds x h in
      let u = own.1 x c in
      let v = (all_once w.member [] (s w.member (later d ds w.member w.among))).1 x w.has in
      a.0 w.member w.among (same_end u.0 v.0 d.name.name w.member.name.name [] (sym u.1 ∙ v.1)))

  pub one_place : (j k : ℕ) (b : Body) → slice_get (bodies_of p) j ≡ Some b → slice_get (bodies_of p) k ≡ Some b → j ≡ k
  one_place = once_places (bodies_of p) (decls_once p.decls (λ d c. c) (apart decl_name p.decls (λ n i. never (refusal None n) (at_top n i refl))))
