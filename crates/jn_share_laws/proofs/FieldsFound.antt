-- The declared fields of a program are those in the bodies of its declarations.
use Rattle.std.proofs.Common.{◌≡◌, List, [], ◌∷◌, refl, sym, ap, ◌∙◌, subst, ◌⊎◌, inl, inr, Contains, map}
use Rattle.std.proofs.lemmas.List.Elements.{Contains-append_left, Contains-append_right, Contains-append_cases}
use Rattle.jn_base.specs.declared.tree.Name.{Name}
use Rattle.jn_base.specs.declared.tree.Field.{Field}
use Rattle.jn_base.specs.declared.tree.Program.{Program}
use Rattle.jn_base.specs.declared.tree.Member.{Member, out-Member, roll-Member, out-roll-Member}
use Rattle.jn_base.specs.declared.tree.Member.TheOpen.{Member-F}
use Rattle.jn_base.specs.declared.tree.Member.TheFolds.{map-Member, map-Decl, ind-Decl, fold_out-Member}
use Rattle.jn_base.specs.declared.tree.Decl.{Decl, roll-Decl}
use Rattle.jn_base.specs.Paths.{Path, nested, and_nested, fields, and_field, StandsIn, StandsAt}
use Rattle.jn_base.specs.Members.{FieldAt}
use Rattle.jn_base.proofs.NameTests.{in_cons, in_none, first, later}
use Rattle.jn_base.proofs.FoundTwice.{unmapped}
use Rattle.jn_names.specs.FieldTypes.{AtField, FieldsBy, all_by, member_step, decl_step, fields_of_member, fields_of_decl, declared_fields}
use Rattle.jn_names.proofs.FieldProof.{at_decl}

-- one level deep
opened : (m : Member) (f : Member-F Member Decl) → out-Member m ≡ f → (R : Path)
    → fields_of_member m R ≡ member_step (map-Member Member Decl FieldsBy FieldsBy fields_of_member fields_of_decl f) R
unfolding fields_of_decl fields_of_member
opened m f e R =
    ap (λ (g : FieldsBy). g R) (fold_out-Member FieldsBy FieldsBy member_step decl_step m)
    ∙ ap (λ (x : Member-F Member Decl). member_step (map-Member Member Decl FieldsBy FieldsBy fields_of_member fields_of_decl x) R) e

-- ---- lists

in_by : {A : Type 0} (f : A → FieldsBy) (R : Path) (ms : List A) (m : A) (x : AtField) → Contains ms m → Contains (f m R) x → Contains (all_by R (map f ms)) x
in_by f R [] m x c h = absurd (in_none m c)
in_by f R (n ∷ ms) m x c h = by_place (in_cons n ms m c) (λ k. in_by f R ms m x k h) where
  by_place : (n ≡ m) ⊎ Contains ms m → (Contains ms m → Contains (all_by R (map f ms)) x) → Contains (all_by R (map f (n ∷ ms))) x
  by_place (inl e) k = Contains-append_left (f n R) (all_by R (map f ms)) x (subst (λ (y : _). Contains (f y R) x) (sym e) h)
  by_place (inr i) k = Contains-append_right (f n R) (all_by R (map f ms)) x (k i)

record FoundBy {A : Type 0} (f : A → FieldsBy) (R : Path) (ms : List A) (x : AtField) : Type 0 where
  member : A
  among : Contains ms member
  has : Contains (f member R) x

found_later : {A : Type 0} (f : A → FieldsBy) (R : Path) (n : A) (ms : List A) (x : AtField) → FoundBy f R ms x → FoundBy f R (n ∷ ms) x
found_later f R n ms x w = record { member = w.member; among = later n ms w.member w.among; has = w.has }

by_in : {A : Type 0} (f : A → FieldsBy) (R : Path) (ms : List A) (x : AtField) → Contains (all_by R (map f ms)) x → FoundBy f R ms x
by_in f R [] x c = absurd (in_none x c)
by_in f R (n ∷ ms) x c = by_part (Contains-append_cases (f n R) (all_by R (map f ms)) x c) (λ k. by_in f R ms x k) where
  by_part : Contains (f n R) x ⊎ Contains (all_by R (map f ms)) x → (Contains (all_by R (map f ms)) x → FoundBy f R ms x) → FoundBy f R (n ∷ ms) x
  by_part (inl h) k = record { member = n; among = first n ms; has = h }
  by_part (inr h) k = found_later f R n ms x (k h)

-- ---- each field of a declaration is found

abbrev field_at : Path → Field → AtField
field_at R g = record { class = R; field = g }

in_members : (R : Path) (ms : List Member) (g : Field) → Contains (fields ms) g → Contains (all_by R (map fields_of_member ms)) (field_at R g)
in_members R [] g c = absurd (in_none g c)
in_members R (m ∷ ms) g c = by_form (out-Member m) refl c (λ k. in_members R ms g k) where
  skip : Contains (all_by R (map fields_of_member ms)) (field_at R g) → Contains (all_by R (map fields_of_member (m ∷ ms))) (field_at R g)
  skip h = Contains-append_right (fields_of_member m R) (all_by R (map fields_of_member ms)) (field_at R g) h

  by_place : (h : Field) → out-Member m ≡ Member-F.Slot h → (h ≡ g) ⊎ Contains (fields ms) g
      → (Contains (fields ms) g → Contains (all_by R (map fields_of_member ms)) (field_at R g)) → Contains (all_by R (map fields_of_member (m ∷ ms))) (field_at R g)
  by_place h i (inl q) k =
      Contains-append_left (fields_of_member m R) (all_by R (map fields_of_member ms)) (field_at R g)
      (subst (λ (l : List AtField). Contains l (field_at R g)) (sym (opened m (Member-F.Slot h) i R ∙ ap (λ (y : Field). field_at R y ∷ []) q)) (first (field_at R g) []))
  by_place h i (inr q) k = skip (k q)

  by_form : (o : Member-F Member Decl) → out-Member m ≡ o → Contains (and_field o (fields ms)) g
      → (Contains (fields ms) g → Contains (all_by R (map fields_of_member ms)) (field_at R g)) → Contains (all_by R (map fields_of_member (m ∷ ms))) (field_at R g)
  by_form (Member-F.Inner d) i c k = skip (k c)
  by_form (Member-F.Slot h) i c k = by_place h i (in_cons h (fields ms) g c) k
  by_form (Member-F.Body n) i c k = skip (k c)

nested_in_members : (R : Path) (ms : List Member) (e : Decl) (x : AtField) → Contains (nested ms) e → Contains (fields_of_decl e R) x
    → Contains (all_by R (map fields_of_member ms)) x
nested_in_members R [] e x c h = absurd (in_none e c)
nested_in_members R (m ∷ ms) e x c h = by_form (out-Member m) refl c (λ k. nested_in_members R ms e x k h) where
  by_place : (d : Decl) → out-Member m ≡ Member-F.Inner d → (d ≡ e) ⊎ Contains (nested ms) e → (Contains (nested ms) e → Contains (all_by R (map fields_of_member ms)) x)
      → Contains (all_by R (map fields_of_member (m ∷ ms))) x
  by_place d i (inl q) k =
      Contains-append_left (fields_of_member m R) (all_by R (map fields_of_member ms)) x
      (subst (λ (l : List AtField). Contains l x) (sym (opened m (Member-F.Inner d) i R ∙ ap (λ (y : Decl). fields_of_decl y R) q)) h)
  by_place d i (inr q) k = Contains-append_right (fields_of_member m R) (all_by R (map fields_of_member ms)) x (k q)

  by_form : (o : Member-F Member Decl) → out-Member m ≡ o → Contains (and_nested o (nested ms)) e → (Contains (nested ms) e → Contains (all_by R (map fields_of_member ms)) x)
      → Contains (all_by R (map fields_of_member (m ∷ ms))) x
  by_form (Member-F.Inner d) i c k = by_place d i (in_cons d (nested ms) e c) k
  by_form (Member-F.Slot f) i c k = Contains-append_right (fields_of_member m R) (all_by R (map fields_of_member ms)) x (k c)
  by_form (Member-F.Body n) i c k = Contains-append_right (fields_of_member m R) (all_by R (map fields_of_member ms)) x (k c)

found_out : (p : Program) (P : Path) (d : Decl) (x : AtField) → StandsIn p P d → Contains (fields_of_decl d P) x → Contains (declared_fields p) x
found_out p [] d x s c = in_by fields_of_decl [] p.decls d x s c
found_out p (C ∷ P) d x s c =
    let e : Decl = s.0 in
    found_out p P e x s.1
    (subst (λ (l : List AtField). Contains l x) (sym (at_decl e P))
    (nested_in_members (e.name.name ∷ P) e.members d x s.3 (subst (λ (N : Name). Contains (fields_of_decl d (N ∷ P)) x) (sym s.2) c)))

found_at : (p : Program) (Q : Path) (d : Decl) (g : Field) → StandsAt p Q d → Contains (fields d.members) g → Contains (declared_fields p) (field_at Q g)
found_at p [] d g s c = absurd s
found_at p (C ∷ P) d g s c =
    found_out p P d (field_at (C ∷ P) g) s.0
    (subst (λ (l : List AtField). Contains l (field_at (C ∷ P) g)) (sym (at_decl d P))
    (subst (λ (N : Name). Contains (all_by (d.name.name ∷ P) (map fields_of_member d.members)) (field_at (N ∷ P) g)) s.1 (in_members (d.name.name ∷ P) d.members g c)))

pub field_found : (p : Program) (Q : Path) (f : Name) (g : Field) → FieldAt p Q f g → Contains (declared_fields p) (record { class = Q; field = g })
field_found p Q f g w = found_at p Q w.decl g w.stands w.has

-- ---- and nothing else

nested_in : (o : Member-F Member Decl) (ds : List Decl) (d : Decl) → o ≡ Member-F.Inner d → Contains (and_nested o ds) d
nested_in o ds d e = subst (λ (x : Member-F Member Decl). Contains (and_nested x ds) d) (sym e) (first d ds)

skip_nested : (o : Member-F Member Decl) (ds : List Decl) (d : Decl) → Contains ds d → Contains (and_nested o ds) d
skip_nested (Member-F.Inner f) ds d c = later f ds d c
skip_nested (Member-F.Slot f) ds d c = c
skip_nested (Member-F.Body m) ds d c = c

nested_from : (ms : List Member) (m : Member) (d : Decl) → Contains ms m → out-Member m ≡ Member-F.Inner d → Contains (nested ms) d
nested_from [] m d c e = absurd (in_none m c)
nested_from (x ∷ ms) m d c e = by_place (in_cons x ms m c) (λ h. nested_from ms m d h e) where
  by_place : (x ≡ m) ⊎ Contains ms m → (Contains ms m → Contains (nested ms) d) → Contains (nested (x ∷ ms)) d
  by_place (inl h) k = nested_in (out-Member x) (nested ms) d (ap out-Member h ∙ e)
  by_place (inr h) k = skip_nested (out-Member x) (nested ms) d (k h)

field_in : (o : Member-F Member Decl) (gs : List Field) (g : Field) → o ≡ Member-F.Slot g → Contains (and_field o gs) g
field_in o gs g e = subst (λ (x : Member-F Member Decl). Contains (and_field x gs) g) (sym e) (first g gs)

skip_field : (o : Member-F Member Decl) (gs : List Field) (g : Field) → Contains gs g → Contains (and_field o gs) g
skip_field (Member-F.Inner d) gs g c = c
skip_field (Member-F.Slot f) gs g c = later f gs g c
skip_field (Member-F.Body m) gs g c = c

field_from : (ms : List Member) (m : Member) (g : Field) → Contains ms m → out-Member m ≡ Member-F.Slot g → Contains (fields ms) g
field_from [] m g c e = absurd (in_none m c)
field_from (x ∷ ms) m g c e = by_place (in_cons x ms m c) (λ h. field_from ms m g h e) where
  by_place : (x ≡ m) ⊎ Contains ms m → (Contains ms m → Contains (fields ms) g) → Contains (fields (x ∷ ms)) g
  by_place (inl h) k = field_in (out-Member x) (fields ms) g (ap out-Member h ∙ e)
  by_place (inr h) k = skip_field (out-Member x) (fields ms) g (k h)

module _ (p : Program) where
  MemberTold : Member → Type 0
  MemberTold m = (R : Path) → ((e : Decl) → out-Member m ≡ Member-F.Inner e → StandsIn p R e) → ((g : Field) → out-Member m ≡ Member-F.Slot g → FieldAt p R g.name.name g)
      → (x : AtField) → Contains (fields_of_member m R) x → FieldAt p x.class x.field.name.name x.field

  DeclTold : Decl → Type 0
  DeclTold d = (P : Path) → StandsIn p P d → (x : AtField) → Contains (fields_of_decl d P) x → FieldAt p x.class x.field.name.name x.field

  bare : Member-F ((m : Member) × MemberTold m) ((d : Decl) × DeclTold d) → Member-F Member Decl
  bare = map-Member _ _ _ _ (λ e. e.0) (λ e. e.0)

  by_one : (y x : AtField) → FieldAt p y.class y.field.name.name y.field → (y ≡ x) ⊎ Contains [] x → FieldAt p x.class x.field.name.name x.field
  by_one y x w (inl e) = subst (λ (z : AtField). FieldAt p z.class z.field.name.name z.field) e w
  by_one y x w (inr c) = absurd (in_none x c)

  member_told : (y : Member-F ((m : Member) × MemberTold m) ((d : Decl) × DeclTold d)) → MemberTold (roll-Member (bare y))
  unfolding MemberTold DeclTold bare
  member_told (Member-F.Inner t) R k s x h =
      let o = out-roll-Member (Member-F.Inner t.0) in
      t.1 R (k t.0 o) x (subst (λ (l : List AtField). Contains l x) (opened (roll-Member (Member-F.Inner t.0)) (Member-F.Inner t.0) o R) h)
  member_told (Member-F.Slot f) R k s x h =
      let o = out-roll-Member (Member-F.Slot f) in
      by_one (field_at R f) x (s f o)
      (in_cons (field_at R f) [] x (subst (λ (l : List AtField). Contains l x) (opened (roll-Member (Member-F.Slot f)) (Member-F.Slot f) o R) h))
  member_told (Member-F.Body n) R k s x h =
      absurd (in_none x (subst (λ (l : List AtField). Contains l x) (opened (roll-Member (Member-F.Body n)) (Member-F.Body n) (out-roll-Member (Member-F.Body n)) R) h))

  such_member : (ts : List ((m : Member) × MemberTold m)) (m : Member) → Contains (map (λ e. e.0) ts) m → MemberTold m
  such_member ts m c =
      let u = unmapped (λ (e : (m : Member) × MemberTold m). e.0) ts m c in
      subst MemberTold (sym u.is) u.x.1

  decl_told : (d : Decl) → ((m : Member) → Contains d.members m → MemberTold m) → DeclTold d
  unfolding MemberTold DeclTold
  decl_told d k P s x c =
      let R : Path = d.name.name ∷ P in
      let w = by_in fields_of_member R d.members x (subst (λ (l : List AtField). Contains l x) (at_decl d P) c) in
      k w.member w.among R
      (λ e o. (d, s, refl, nested_from d.members w.member e w.among o))
      (λ g o. record { decl = d; stands = (s, refl); has = field_from d.members w.member g w.among o; name = refl })
      x w.has

  all_told : (d : Decl) → DeclTold d
  unfolding bare
  all_told = ind-Decl MemberTold DeclTold
      (λ x y is. subst (λ z. MemberTold (roll-Member z)) is (member_told y))
      (λ x y is. subst (λ z. DeclTold (roll-Decl z)) is
      (decl_told (roll-Decl (map-Decl _ _ _ _ (λ e. e.0) (λ e. e.0) y)) (λ m c. such_member y.members m c)))

  pub found_field : (x : AtField) → Contains (declared_fields p) x → FieldAt p x.class x.field.name.name x.field
  unfolding DeclTold
  found_field x c = let w = by_in fields_of_decl [] p.decls x c in all_told w.member [] w.among x w.has
