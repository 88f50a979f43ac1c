-- The listed names of a program are those in the lists of its declarations.
use Rattle.std.proofs.Common.{◌≡◌, List, [], ◌∷◌, refl, sym, ap, ◌∙◌, subst, ◌⊎◌, inl, inr, Contains, map, Some}
use Rattle.std.proofs.lemmas.List.Elements.{Contains-append_left, Contains-append_right, Contains-append_cases}
use Rattle.jn_base.specs.declared.tree.Name.{Name}
use Rattle.jn_base.specs.declared.tree.Named.{Named}
use Rattle.jn_base.specs.declared.tree.Program.{Program}
use Rattle.jn_base.specs.declared.tree.Member.{Member, out-Member, roll-Member, out-roll-Member}
use Rattle.jn_base.specs.declared.tree.Member.TheOpen.{Member-F}
use Rattle.jn_base.specs.declared.tree.Member.TheFolds.{map-Member, map-Decl, ind-Decl}
use Rattle.jn_base.specs.declared.tree.Decl.{Decl, roll-Decl}
use Rattle.jn_base.specs.Paths.{Path, nested, and_nested, StandsIn}
use Rattle.jn_base.proofs.NameTests.{in_cons, in_none, first, later}
use Rattle.jn_base.proofs.FoundTwice.{unmapped}
use Rattle.jn_sem.specs.Sharing.{family_of}
use Rattle.jn_sem.specs.NotFamily.{Listed, adapting, sharing, in_list, ListedBy, listed_by, own_listed, listed_in_member, listed_in_decl, listed_names}
use Rattle.jn_share.proofs.Walk.{at_decl, opened}

-- the declaration that lists the name
pub record ListedAt (p : Program) (x : Listed) : Type 0 where
  pub P : Path
  pub decl : Decl
  pub stands : StandsIn p P decl
  pub among : Contains (own_listed decl.name.name decl.shares decl.adapts P) x

-- ---- lists

in_by : {A : Type 0} (f : A → ListedBy) (R : Path) (ms : List A) (m : A) (x : Listed) → Contains ms m → Contains (f m R) x → Contains (listed_by R (map f ms)) x
in_by f R [] m x c h = absurd (in_none m c)
in_by f R (n ∷ ms) m x c h = by_place (in_cons n ms m c) (λ k. in_by f R ms m x k h) where
  by_place : (n ≡ m) ⊎ Contains ms m → (Contains ms m → Contains (listed_by R (map f ms)) x) → Contains (listed_by R (map f (n ∷ ms))) x
  by_place (inl e) k = Contains-append_left (f n R) (listed_by R (map f ms)) x (subst (λ (y : _). Contains (f y R) x) (sym e) h)
  by_place (inr i) k = Contains-append_right (f n R) (listed_by R (map f ms)) x (k i)

record FoundBy {A : Type 0} (f : A → ListedBy) (R : Path) (ms : List A) (x : Listed) : Type 0 where
  member : A
  among : Contains ms member
  has : Contains (f member R) x

found_later : {A : Type 0} (f : A → ListedBy) (R : Path) (n : A) (ms : List A) (x : Listed) → FoundBy f R ms x → FoundBy f R (n ∷ ms) x
found_later f R n ms x w = record { member = w.member; among = later n ms w.member w.among; has = w.has }

by_in : {A : Type 0} (f : A → ListedBy) (R : Path) (ms : List A) (x : Listed) → Contains (listed_by R (map f ms)) x → FoundBy f R ms x
by_in f R [] x c = absurd (in_none x c)
by_in f R (n ∷ ms) x c = by_part (Contains-append_cases (f n R) (listed_by R (map f ms)) x c) (λ k. by_in f R ms x k) where
  by_part : Contains (f n R) x ⊎ Contains (listed_by R (map f ms)) x → (Contains (listed_by R (map f ms)) x → FoundBy f R ms x) → FoundBy f R (n ∷ ms) x
  by_part (inl h) k = record { member = n; among = first n ms; has = h }
  by_part (inr h) k = found_later f R n ms x (k h)

-- ---- all that is listed is found

nested_in_members : (R : Path) (ms : List Member) (e : Decl) (x : Listed) → Contains (nested ms) e → Contains (listed_in_decl e R) x
    → Contains (listed_by R (map listed_in_member ms)) x
nested_in_members R [] e x c h = absurd (in_none e c)
nested_in_members R (m ∷ ms) e x c h = by_form (out-Member m) refl c (λ k. nested_in_members R ms e x k h) where
  by_place : (d : Decl) → out-Member m ≡ Member-F.Inner d → (d ≡ e) ⊎ Contains (nested ms) e → (Contains (nested ms) e → Contains (listed_by R (map listed_in_member ms)) x)
      → Contains (listed_by R (map listed_in_member (m ∷ ms))) x
  by_place d i (inl q) k =
      Contains-append_left (listed_in_member m R) (listed_by R (map listed_in_member ms)) x
      (subst (λ (l : List Listed). Contains l x) (sym (opened m (Member-F.Inner d) i R ∙ ap (λ (y : Decl). listed_in_decl y R) q)) h)
  by_place d i (inr q) k = Contains-append_right (listed_in_member m R) (listed_by R (map listed_in_member ms)) x (k q)

  by_form : (o : Member-F Member Decl) → out-Member m ≡ o → Contains (and_nested o (nested ms)) e → (Contains (nested ms) e → Contains (listed_by R (map listed_in_member ms)) x)
      → Contains (listed_by R (map listed_in_member (m ∷ ms))) x
  by_form (Member-F.Inner d) i c k = by_place d i (in_cons d (nested ms) e c) k
  by_form (Member-F.Slot f) i c k = Contains-append_right (listed_in_member m R) (listed_by R (map listed_in_member ms)) x (k c)
  by_form (Member-F.Body n) i c k = Contains-append_right (listed_in_member m R) (listed_by R (map listed_in_member ms)) x (k c)

found_out : (p : Program) (P : Path) (d : Decl) (x : Listed) → StandsIn p P d → Contains (listed_in_decl d P) x → Contains (listed_names p) x
found_out p [] d x s c = in_by listed_in_decl [] p.decls d x s c
found_out p (C ∷ P) d x s c =
    let e : Decl = s.0 in
    found_out p P e x s.1
    (subst (λ (l : List Listed). Contains l x) (sym (at_decl e P))
    (Contains-append_right (own_listed e.name.name e.shares e.adapts P) (listed_by (e.name.name ∷ P) (map listed_in_member e.members)) x
    (nested_in_members (e.name.name ∷ P) e.members d x s.3 (subst (λ (N : Name). Contains (listed_in_decl d (N ∷ P)) x) (sym s.2) c))))

pub listed_found : (p : Program) (x : Listed) → ListedAt p x → Contains (listed_names p) x
listed_found p x w =
    let d : Decl = w.decl in
    found_out p w.P d x w.stands
    (subst (λ (l : List Listed). Contains l x) (sym (at_decl d w.P))
    (Contains-append_left (own_listed d.name.name d.shares d.adapts w.P) (listed_by (d.name.name ∷ w.P) (map listed_in_member d.members)) x w.among))

-- ---- and nothing else

nested_in : (o : Member-F Member Decl) (ds : List Decl) (d : Decl) → o ≡ Member-F.Inner d → Contains (and_nested o ds) d
nested_in o ds d e = subst (λ (x : Member-F Member Decl). Contains (and_nested x ds) d) (sym e) (first d ds)

skip_nested : (o : Member-F Member Decl) (ds : List Decl) (d : Decl) → Contains ds d → Contains (and_nested o ds) d
skip_nested (Member-F.Inner f) ds d c = later f ds d c
skip_nested (Member-F.Slot f) ds d c = c
skip_nested (Member-F.Body m) ds d c = c

nested_from : (ms : List Member) (m : Member) (d : Decl) → Contains ms m → out-Member m ≡ Member-F.Inner d → Contains (nested ms) d
nested_from [] m d c e = absurd (in_none m c)
nested_from (x ∷ ms) m d c e = by_place (in_cons x ms m c) (λ h. nested_from ms m d h e) where
  by_place : (x ≡ m) ⊎ Contains ms m → (Contains ms m → Contains (nested ms) d) → Contains (nested (x ∷ ms)) d
  by_place (inl h) k = nested_in (out-Member x) (nested ms) d (ap out-Member h ∙ e)
  by_place (inr h) k = skip_nested (out-Member x) (nested ms) d (k h)

module _ (p : Program) where
  MemberTold : Member → Type 0
  MemberTold m = (R : Path) → ((e : Decl) → out-Member m ≡ Member-F.Inner e → StandsIn p R e) → (x : Listed) → Contains (listed_in_member m R) x → ListedAt p x

  DeclTold : Decl → Type 0
  DeclTold d = (P : Path) → StandsIn p P d → (x : Listed) → Contains (listed_in_decl d P) x → ListedAt p x

  bare : Member-F ((m : Member) × MemberTold m) ((d : Decl) × DeclTold d) → Member-F Member Decl
  bare = map-Member _ _ _ _ (λ e. e.0) (λ e. e.0)

  member_told : (y : Member-F ((m : Member) × MemberTold m) ((d : Decl) × DeclTold d)) → MemberTold (roll-Member (bare y))
  unfolding MemberTold DeclTold bare
  member_told (Member-F.Inner t) R k x h =
      let o = out-roll-Member (Member-F.Inner t.0) in
      t.1 R (k t.0 o) x (subst (λ (l : List Listed). Contains l x) (opened (roll-Member (Member-F.Inner t.0)) (Member-F.Inner t.0) o R) h)
  member_told (Member-F.Slot f) R k x h =
      absurd (in_none x (subst (λ (l : List Listed). Contains l x) (opened (roll-Member (Member-F.Slot f)) (Member-F.Slot f) (out-roll-Member (Member-F.Slot f)) R) h))
  member_told (Member-F.Body n) R k x h =
      absurd (in_none x (subst (λ (l : List Listed). Contains l x) (opened (roll-Member (Member-F.Body n)) (Member-F.Body n) (out-roll-Member (Member-F.Body n)) R) h))

  such_member : (ts : List ((m : Member) × MemberTold m)) (m : Member) → Contains (map (λ e. e.0) ts) m → MemberTold m
  such_member ts m c =
      let u = unmapped (λ (e : (m : Member) × MemberTold m). e.0) ts m c in
      subst MemberTold (sym u.is) u.x.1

  decl_by : (P : Path) (d : Decl) → StandsIn p P d → ((m : Member) → Contains d.members m → MemberTold m) → (x : Listed)
      → Contains (own_listed d.name.name d.shares d.adapts P) x ⊎ Contains (listed_by (d.name.name ∷ P) (map listed_in_member d.members)) x → ListedAt p x
  unfolding MemberTold
  decl_by P d s k x (inl c) = record { P = P; decl = d; stands = s; among = c }
  decl_by P d s k x (inr c) =
      let w = by_in listed_in_member (d.name.name ∷ P) d.members x c in
      k w.member w.among (d.name.name ∷ P) (λ e o. (d, s, refl, nested_from d.members w.member e w.among o)) x w.has

  decl_told : (d : Decl) → ((m : Member) → Contains d.members m → MemberTold m) → DeclTold d
  unfolding DeclTold
  decl_told d k P s x c =
      decl_by P d s k x
      (Contains-append_cases (own_listed d.name.name d.shares d.adapts P) (listed_by (d.name.name ∷ P) (map listed_in_member d.members)) x
      (subst (λ (l : List Listed). Contains l x) (at_decl d P) c))

  all_told : (d : Decl) → DeclTold d
  unfolding bare
  all_told = ind-Decl MemberTold DeclTold
      (λ x y is. subst (λ z. MemberTold (roll-Member z)) is (member_told y))
      (λ x y is. subst (λ z. DeclTold (roll-Decl z)) is
      (decl_told (roll-Decl (map-Decl _ _ _ _ (λ e. e.0) (λ e. e.0) y)) (λ m c. such_member y.members m c)))

  pub found_listed : (x : Listed) → Contains (listed_names p) x → ListedAt p x
  unfolding DeclTold
  found_listed x c = let w = by_in listed_in_decl [] p.decls x c in all_told w.member [] w.among x w.has

-- ---- each has a family

pub some_family : (D : Name) (P : Path) → (X : Name) × (family_of (D ∷ P) ≡ Some X)
some_family D [] = (D, refl)
some_family D (E ∷ P) = some_family E P

own_family : (C : Name) (P : Path) (shares adapts : List Named) (x : Listed) → Contains (own_listed C shares adapts P) x → (X : Name) × (family_of x.at ≡ Some X)
own_family C [] shares adapts x c = let u = unmapped (in_list (C ∷ []) adapting) adapts x c in (C, ap (λ (y : Listed). family_of y.at) u.is)
own_family C (D ∷ P) shares adapts x c =
    let u = unmapped (in_list (C ∷ (D ∷ P)) sharing) shares x c in
    let f = some_family D P in
    (f.0, ap (λ (y : Listed). family_of y.at) u.is ∙ f.1)

pub listed_family : (p : Program) (x : Listed) → Contains (listed_names p) x → (X : Name) × (family_of x.at ≡ Some X)
listed_family p x c =
    let w = found_listed p x c in
    own_family (w.decl).name.name w.P (w.decl).shares (w.decl).adapts x w.among
