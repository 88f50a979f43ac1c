-- The duplicates of a program are what stands twice: bodies, paths, and the tree.
use Rattle.std.proofs.Common.{◌≡◌, List, [], ◌∷◌, ◌++◌, refl, sym, ap, ◌∙◌, subst, true, ◌⊎◌, inl, inr, Contains, map, None}
use Rattle.std.proofs.lemmas.List.Elements.{Contains-append_left, Contains-append_right, Contains-append_cases}
use Rattle.jn_base.specs.declared.tree.Name.{Name}
use Rattle.jn_base.specs.declared.tree.Named.{Named}
use Rattle.jn_base.specs.declared.tree.Program.{Program}
use Rattle.jn_base.specs.declared.tree.Method.{Method}
use Rattle.jn_base.specs.declared.tree.Field.{Field}
use Rattle.jn_base.specs.declared.tree.Member.{Member, out-Member, roll-Member, out-roll-Member}
use Rattle.jn_base.specs.declared.tree.Member.TheOpen.{Member-F}
use Rattle.jn_base.specs.declared.tree.Member.TheFolds.{map-Member, map-Decl, ind-Decl}
use Rattle.jn_base.specs.declared.tree.Decl.{Decl, roll-Decl}
use Rattle.jn_base.specs.declared.refusal.Refusal.{Refusal}
use Rattle.jn_base.specs.Paths.{Path, nested, and_nested, methods, and_method, StandsIn, StandsAt}
use Rattle.jn_base.specs.Duplicates.{only_if, has_name, seconds, Space, of_decls, of_fields, of_methods, Given, InMember, InDecl, in_members, in_decls, in_lists, in_member, in_decl, in_method, member_step, refusal, duplicate, duplicates}
use Rattle.jn_base.specs.Twice.{IsSecond, decl_name, BodyTwice, extended, shared, adapted, declaration, field, method, inside, Twice, at_top, in_body}
use Rattle.jn_base.proofs.NameTests.{in_cons, in_none, first, later}
use Rattle.jn_base.proofs.Seconds.{SecondIn, hit, next, only_has, only_from, seconds_to, seconds_from, second_is, second_from}
use Rattle.jn_base.proofs.LocalsTwice.{found_method, method_found}
use Rattle.jn_base.proofs.GivenTwice.{GivenTwice, named_in, twice_to, twice_from, decl_names, field_names, method_names}
use Rattle.jn_base.proofs.FoundTwice.{mapped, unmapped, FoundIn, by_given, by_member, members_found, given_found, member_found, three}
use Rattle.jn_base.proofs.Unique.{decl_opened, member_opened, givens, inside_is, name_is}

-- ---- the members of a body

nested_in : (o : Member-F Member Decl) (ds : List Decl) (d : Decl) → o ≡ Member-F.Inner d → Contains (and_nested o ds) d
nested_in o ds d e = subst (λ (x : Member-F Member Decl). Contains (and_nested x ds) d) (sym e) (first d ds)

skip_nested : (o : Member-F Member Decl) (ds : List Decl) (d : Decl) → Contains ds d → Contains (and_nested o ds) d
skip_nested (Member-F.Inner f) ds d c = later f ds d c
skip_nested (Member-F.Slot f) ds d c = c
skip_nested (Member-F.Body m) ds d c = c

nested_from : (ms : List Member) (m : Member) (d : Decl) → Contains ms m → out-Member m ≡ Member-F.Inner d → Contains (nested ms) d
nested_from [] m d c e = absurd (in_none m c)
nested_from (x ∷ ms) m d c e = by_place (in_cons x ms m c) (λ h. nested_from ms m d h e) where
  by_place : (x ≡ m) ⊎ Contains ms m → (Contains ms m → Contains (nested ms) d) → Contains (nested (x ∷ ms)) d
  by_place (inl h) k = nested_in (out-Member x) (nested ms) d (ap out-Member h ∙ e)
  by_place (inr h) k = skip_nested (out-Member x) (nested ms) d (k h)

methods_in : (o : Member-F Member Decl) (ns : List Method) (n : Method) → o ≡ Member-F.Body n → Contains (and_method o ns) n
methods_in o ns n e = subst (λ (x : Member-F Member Decl). Contains (and_method x ns) n) (sym e) (first n ns)

skip_methods : (o : Member-F Member Decl) (ns : List Method) (n : Method) → Contains ns n → Contains (and_method o ns) n
skip_methods (Member-F.Inner f) ns n c = c
skip_methods (Member-F.Slot f) ns n c = c
skip_methods (Member-F.Body m) ns n c = later m ns n c

methods_from : (ms : List Member) (m : Member) (n : Method) → Contains ms m → out-Member m ≡ Member-F.Body n → Contains (methods ms) n
methods_from [] m n c e = absurd (in_none m c)
methods_from (x ∷ ms) m n c e = by_place (in_cons x ms m c) (λ h. methods_from ms m n h e) where
  by_place : (x ≡ m) ⊎ Contains ms m → (Contains ms m → Contains (methods ms) n) → Contains (methods (x ∷ ms)) n
  by_place (inl h) k = methods_in (out-Member x) (methods ms) n (ap out-Member h ∙ e)
  by_place (inr h) k = skip_methods (out-Member x) (methods ms) n (k h)

-- the member that is this declaration or method
record Stands (ms : List Member) (o : Member-F Member Decl) : Type 0 where
  member : Member
  among : Contains ms member
  is : out-Member member ≡ o

stands_later : {ms : List Member} {o : Member-F Member Decl} (x : Member) → Stands ms o → Stands (x ∷ ms) o
stands_later {ms} x s = record { member = s.member; among = later x ms s.member s.among; is = s.is }

nested_first : (o : Member-F Member Decl) (ds : List Decl) (d : Decl) → Contains (and_nested o ds) d → (o ≡ Member-F.Inner d) ⊎ Contains ds d
nested_first (Member-F.Inner f) ds d c = by_place (in_cons f ds d c) where
  by_place : (f ≡ d) ⊎ Contains ds d → (◌≡◌ {A = Member-F Member Decl} (Member-F.Inner f) (Member-F.Inner d)) ⊎ Contains ds d
  by_place (inl e) = inl (ap (λ (x : Decl). Member-F.Inner x) e)
  by_place (inr h) = inr h
nested_first (Member-F.Slot f) ds d c = inr c
nested_first (Member-F.Body m) ds d c = inr c

method_first : (o : Member-F Member Decl) (ns : List Method) (n : Method) → Contains (and_method o ns) n → (o ≡ Member-F.Body n) ⊎ Contains ns n
method_first (Member-F.Inner f) ns n c = inr c
method_first (Member-F.Slot f) ns n c = inr c
method_first (Member-F.Body m) ns n c = by_place (in_cons m ns n c) where
  by_place : (m ≡ n) ⊎ Contains ns n → (◌≡◌ {A = Member-F Member Decl} (Member-F.Body m) (Member-F.Body n)) ⊎ Contains ns n
  by_place (inl e) = inl (ap (λ (x : Method). Member-F.Body x) e)
  by_place (inr h) = inr h

stands_by : {ms : List Member} {o : Member-F Member Decl} {T : Type 0} (x : Member) → (T → Stands ms o) → (out-Member x ≡ o) ⊎ T → Stands (x ∷ ms) o
stands_by {ms} x k (inl e) = record { member = x; among = first x ms; is = e }
stands_by x k (inr t) = stands_later x (k t)

nested_member : (ms : List Member) (d : Decl) → Contains (nested ms) d → Stands ms (Member-F.Inner d)
nested_member [] d c = absurd (in_none d c)
nested_member (m ∷ ms) d c = stands_by m (λ h. nested_member ms d h) (nested_first (out-Member m) (nested ms) d c)

method_member : (ms : List Member) (n : Method) → Contains (methods ms) n → Stands ms (Member-F.Body n)
method_member [] n c = absurd (in_none n c)
method_member (m ∷ ms) n c = stands_by m (λ h. method_member ms n h) (method_first (out-Member m) (methods ms) n c)

-- what is found inside a method
body_is : (m : Member) (n : Method) (R : Path) → out-Member m ≡ Member-F.Body n → (in_member m).inside R ≡ map (duplicate R) (in_method n)
body_is m n R e =
    ap (λ (x : InMember). x.inside R) (member_opened m)
    ∙ ap (λ (o : Member-F Member Decl). (member_step (map-Member _ _ _ _ in_member in_decl o)).inside R) e

field_is : (m : Member) (f : Field) (R : Path) → out-Member m ≡ Member-F.Slot f → (in_member m).inside R ≡ []
field_is m f R e =
    ap (λ (x : InMember). x.inside R) (member_opened m)
    ∙ ap (λ (o : Member-F Member Decl). (member_step (map-Member _ _ _ _ in_member in_decl o)).inside R) e

-- ---- a body

decl_inside : (d : Decl) (P : Path) → (in_decl d).inside P
    ≡ in_lists (d.name.name ∷ P) d.extends d.shares d.adapts ++ in_members (d.name.name ∷ P) [] (map in_member d.members)
decl_inside d P = ap (λ (x : InDecl). x.inside P) (decl_opened d)

in_list : (R : Path) (xs ys zs : List Named) (n : Named) → Contains xs n ⊎ (Contains ys n ⊎ Contains zs n) → Contains (map (duplicate R) (xs ++ (ys ++ zs))) (duplicate R n)
in_list R xs ys zs n c = mapped (duplicate R) (xs ++ (ys ++ zs)) n (by_part c) where
  by_part : Contains xs n ⊎ (Contains ys n ⊎ Contains zs n) → Contains (xs ++ (ys ++ zs)) n
  by_part (inl h) = Contains-append_left xs (ys ++ zs) n h
  by_part (inr (inl h)) = Contains-append_right xs (ys ++ zs) n (Contains-append_left ys zs n h)
  by_part (inr (inr h)) = Contains-append_right xs (ys ++ zs) n (Contains-append_right ys zs n h)

module _ (d : Decl) (P : Path) where
  R : Path
  R = d.name.name ∷ P

  of_lists : (n : Named) → Contains (seconds [] d.extends) n ⊎ (Contains (seconds [] d.shares) n ⊎ Contains (seconds [] d.adapts) n)
      → Contains ((in_decl d).inside P) (duplicate R n)
  unfolding R
  of_lists n c =
      subst (λ (l : List Refusal). Contains l (duplicate (d.name.name ∷ P) n)) (sym (decl_inside d P))
      (Contains-append_left (in_lists (d.name.name ∷ P) d.extends d.shares d.adapts) (in_members (d.name.name ∷ P) [] (map in_member d.members)) (duplicate (d.name.name ∷ P) n)
      (in_list (d.name.name ∷ P) (seconds [] d.extends) (seconds [] d.shares) (seconds [] d.adapts) n c))

  of_members : (r : Refusal) → Contains (in_members (d.name.name ∷ P) [] (map in_member d.members)) r → Contains ((in_decl d).inside P) r
  of_members r c =
      subst (λ (l : List Refusal). Contains l r) (sym (decl_inside d P))
      (Contains-append_right (in_lists (d.name.name ∷ P) d.extends d.shares d.adapts) (in_members (d.name.name ∷ P) [] (map in_member d.members)) r c)

  of_space : (s : Space) (n : Named) → IsSecond (named_in s (givens d.members)) n → Contains ((in_decl d).inside P) (duplicate R n)
  unfolding R
  of_space s n t =
      of_members (duplicate (d.name.name ∷ P) n)
      (given_found (d.name.name ∷ P) [] d.members (givens d.members) (record { space = s; name = n }) (twice_from s [] (givens d.members) n (second_from t)) refl)

  body_found : (n : Named) → BodyTwice d n → Contains ((in_decl d).inside P) (duplicate R n)
  unfolding R
  body_found n (extended t) = of_lists n (inl (seconds_from [] d.extends n (second_from t)))
  body_found n (shared t) = of_lists n (inr (inl (seconds_from [] d.shares n (second_from t))))
  body_found n (adapted t) = of_lists n (inr (inr (seconds_from [] d.adapts n (second_from t))))
  body_found n (declaration t) = of_space of_decls n (subst (λ (l : List Named). IsSecond l n) (sym (decl_names d.members)) t)
  body_found n (field t) = of_space of_fields n (subst (λ (l : List Named). IsSecond l n) (sym (field_names d.members)) t)
  body_found n (method t) = of_space of_methods n (subst (λ (l : List Named). IsSecond l n) (sym (method_names d.members)) t)
  body_found n (inside m c t) =
      let s = method_member d.members m c in
      let h = mapped (duplicate (d.name.name ∷ P)) (in_method m) n (method_found m n t) in
      of_members (duplicate (d.name.name ∷ P) n)
      (member_found (d.name.name ∷ P) [] d.members s.member (duplicate (d.name.name ∷ P) n) s.among
      (subst (λ (l : List Refusal). Contains l (duplicate (d.name.name ∷ P) n)) (sym (body_is s.member m (d.name.name ∷ P) s.is)) h))

  -- of what is found in a nested declaration
  nested_found : (e : Decl) (r : Refusal) → Contains (nested d.members) e → Contains ((in_decl e).inside (d.name.name ∷ P)) r → Contains ((in_decl d).inside P) r
  nested_found e r c h =
      let s = nested_member d.members e c in
      of_members r
      (member_found (d.name.name ∷ P) [] d.members s.member r s.among
      (subst (λ (l : List Refusal). Contains l r) (sym (inside_is s.member e (d.name.name ∷ P) s.is)) h))

body_found_at : (d : Decl) (P : Path) (n : Named) → BodyTwice d n → Contains ((in_decl d).inside P) (duplicate (d.name.name ∷ P) n)
unfolding R
body_found_at d P n t = body_found d P n t

-- ---- the top level

top_inside : (before : List Name) (ds : List Decl) (d : Decl) (r : Refusal) → Contains ds d → Contains ((in_decl d).inside []) r → Contains (in_decls before (map in_decl ds)) r
top_inside before [] d r c h = absurd (in_none d c)
top_inside before (f ∷ ds) d r c h = by_place (in_cons f ds d c) (λ k. top_inside ((in_decl f).name.name ∷ before) ds d r k h) where
  by_place : (f ≡ d) ⊎ Contains ds d → (Contains ds d → Contains (in_decls ((in_decl f).name.name ∷ before) (map in_decl ds)) r) → Contains (in_decls before (map in_decl (f ∷ ds))) r
  by_place (inl e) k =
      Contains-append_right (only_if (has_name before (in_decl f).name.name) (refusal None (in_decl f).name ∷ [])) ((in_decl f).inside [] ++ in_decls ((in_decl f).name.name ∷ before) (map in_decl ds)) r
      (Contains-append_left ((in_decl f).inside []) (in_decls ((in_decl f).name.name ∷ before) (map in_decl ds)) r
      (subst (λ (g : Decl). Contains ((in_decl g).inside []) r) (sym e) h))
  by_place (inr i) k =
      Contains-append_right (only_if (has_name before (in_decl f).name.name) (refusal None (in_decl f).name ∷ [])) ((in_decl f).inside [] ++ in_decls ((in_decl f).name.name ∷ before) (map in_decl ds)) r
      (Contains-append_right ((in_decl f).inside []) (in_decls ((in_decl f).name.name ∷ before) (map in_decl ds)) r (k i))

-- outwards, along the path
found_out : (p : Program) (P : Path) (d : Decl) (r : Refusal) → StandsIn p P d → Contains ((in_decl d).inside P) r → Contains (duplicates p) r
found_out p [] d r s c = top_inside [] p.decls d r s c
found_out p (C ∷ P) d r s c =
    found_out p P s.0 r s.1
    (nested_found s.0 P d r s.3 (subst (λ (N : Name). Contains ((in_decl d).inside (N ∷ P)) r) (sym s.2) c))

top_found : (before : List Name) (ds : List Decl) (ns : List Named) (n : Named) → SecondIn before ns n → map decl_name ds ≡ ns
    → Contains (in_decls before (map in_decl ds)) (refusal None n)
top_found before [] ns n (hit e) q = cc
top_found before [] ns n (next t) q = cc
top_found before (d ∷ ds) ns n (hit {ns = rest} e) q =
    let is : d.name ≡ n = cc q in
    let own = name_is d ∙ is in
    subst (λ (x : Named). Contains (in_decls before (map in_decl (d ∷ ds))) (refusal None x)) own
    (Contains-append_left (only_if (has_name before (in_decl d).name.name) (refusal None (in_decl d).name ∷ []))
    ((in_decl d).inside [] ++ in_decls ((in_decl d).name.name ∷ before) (map in_decl ds)) (refusal None (in_decl d).name)
    (only_from (has_name before (in_decl d).name.name) (refusal None (in_decl d).name) (subst (λ (x : Named). has_name before x.name ≡ true) (sym own) e)))
top_found before (d ∷ ds) ns n (next {m = m} {ns = rest} t) q =
    let is : d.name ≡ m = cc q in
    let rest_is : map decl_name ds ≡ rest = cc q in
    let own = name_is d ∙ is in
    Contains-append_right (only_if (has_name before (in_decl d).name.name) (refusal None (in_decl d).name ∷ []))
    ((in_decl d).inside [] ++ in_decls ((in_decl d).name.name ∷ before) (map in_decl ds)) (refusal None n)
    (Contains-append_right ((in_decl d).inside []) (in_decls ((in_decl d).name.name ∷ before) (map in_decl ds)) (refusal None n)
    (subst (λ (x : Named). Contains (in_decls (x.name ∷ before) (map in_decl ds)) (refusal None n)) (sym own)
    (top_found (m.name ∷ before) ds rest n t rest_is)))

-- ---- all that stands twice is found

pub twice_found : (p : Program) (r : Refusal) → Twice p r → Contains (duplicates p) r
twice_found p r (at_top n t e) = subst (Contains (duplicates p)) (sym e) (top_found [] p.decls (map decl_name p.decls) n (second_from t) refl)
twice_found p r (in_body [] d n s t e) = absurd s
twice_found p r (in_body (C ∷ P) d n s t e) =
    let named = subst (λ (N : Name). Contains ((in_decl d).inside P) (duplicate (N ∷ P) n)) s.1 (body_found_at d P n t) in
    subst (Contains (duplicates p)) (sym e) (found_out p P d (duplicate (C ∷ P) n) s.0 named)

-- ---- and nothing else

data TopIn (before : List Name) (ds : List Decl) (r : Refusal) : Type 0 where
  top_second : (n : Named) → SecondIn before (map decl_name ds) n → r ≡ refusal None n → TopIn before ds r
  top_within : (d : Decl) → Contains ds d → Contains ((in_decl d).inside []) r → TopIn before ds r

top_next : {before : List Name} {ds : List Decl} {r : Refusal} (d : Decl) → TopIn (d.name.name ∷ before) ds r → TopIn before (d ∷ ds) r
top_next d (top_second n t e) = top_second n (next t) e
top_next {ds = ds} d (top_within f c h) = top_within f (later d ds f c) h

top_by : (before : List Name) (d : Decl) (ds : List Decl) (r : Refusal)
    → (Contains (in_decls (d.name.name ∷ before) (map in_decl ds)) r → TopIn (d.name.name ∷ before) ds r)
    → Contains (only_if (has_name before (in_decl d).name.name) (refusal None (in_decl d).name ∷ [])) r
    ⊎ (Contains ((in_decl d).inside []) r ⊎ Contains (in_decls ((in_decl d).name.name ∷ before) (map in_decl ds)) r)
    → TopIn before (d ∷ ds) r
top_by before d ds r ih (inl c) =
    let o = only_has (has_name before (in_decl d).name.name) (refusal None (in_decl d).name) r c in
    top_second d.name (hit (subst (λ (x : Named). has_name before x.name ≡ true) (name_is d) o.0)) (sym o.1 ∙ ap (λ (x : Named). refusal None x) (name_is d))
top_by before d ds r ih (inr (inl c)) = top_within d (first d ds) c
top_by before d ds r ih (inr (inr c)) =
    top_next d (ih (subst (λ (x : Named). Contains (in_decls (x.name ∷ before) (map in_decl ds)) r) (name_is d) c))

top_in : (before : List Name) (ds : List Decl) (r : Refusal) → Contains (in_decls before (map in_decl ds)) r → TopIn before ds r
top_in before [] r c = absurd (in_none r c)
top_in before (d ∷ ds) r c =
    top_by before d ds r (λ k. top_in (d.name.name ∷ before) ds r k)
    (three (only_if (has_name before (in_decl d).name.name) (refusal None (in_decl d).name ∷ [])) ((in_decl d).inside [])
    (in_decls ((in_decl d).name.name ∷ before) (map in_decl ds)) r c)

-- the name spaces of a body
space_twice : (d : Decl) (s : Space) (n : Named) → IsSecond (named_in s (givens d.members)) n → BodyTwice d n
space_twice d of_decls n t = declaration (subst (λ (l : List Named). IsSecond l n) (decl_names d.members) t)
space_twice d of_fields n t = field (subst (λ (l : List Named). IsSecond l n) (field_names d.members) t)
space_twice d of_methods n t = method (subst (λ (l : List Named). IsSecond l n) (method_names d.members) t)

given_twice : (d : Decl) (g : Given) → GivenTwice [] (givens d.members) g → BodyTwice d g.name
given_twice d g t = space_twice d g.space g.name (second_is (twice_to t))

stands_nested : (p : Program) (R : Path) (d : Decl) (m : Member) (e : Decl) → StandsAt p R d → Contains d.members m → out-Member m ≡ Member-F.Inner e → StandsIn p R e
stands_nested p [] d m e s c h = absurd s
stands_nested p (C ∷ P) d m e s c h = (d, s.0, s.1, nested_from d.members m e c h)

module _ (p : Program) where
  MemberTold : Member → Type 0
  MemberTold m = (R : Path) (d : Decl) → StandsAt p R d → Contains d.members m → (r : Refusal) → Contains ((in_member m).inside R) r → Twice p r

  DeclTold : Decl → Type 0
  DeclTold d = (P : Path) → StandsIn p P d → (r : Refusal) → Contains ((in_decl d).inside P) r → Twice p r

  bare : Member-F ((m : Member) × MemberTold m) ((d : Decl) × DeclTold d) → Member-F Member Decl
  bare = map-Member _ _ _ _ (λ e. e.0) (λ e. e.0)

  method_told : (m : Member) (n : Method) → out-Member m ≡ Member-F.Body n → (R : Path) (d : Decl) → StandsAt p R d → Contains d.members m
      → (r : Refusal) → Contains ((in_member m).inside R) r → Twice p r
  method_told m n e R d s c r h =
      let u = unmapped (duplicate R) (in_method n) r (subst (λ (l : List Refusal). Contains l r) (body_is m n R e) h) in
      in_body R d u.x s (inside n (methods_from d.members m n c e) (found_method n u.x u.among)) u.is

  member_told : (y : Member-F ((m : Member) × MemberTold m) ((d : Decl) × DeclTold d)) → MemberTold (roll-Member (bare y))
  unfolding MemberTold DeclTold bare
  member_told (Member-F.Inner t) R d s c r h =
      let m = roll-Member (Member-F.Inner t.0) in
      let o = out-roll-Member (Member-F.Inner t.0) in
      t.1 R (stands_nested p R d m t.0 s c o) r (subst (λ (l : List Refusal). Contains l r) (inside_is m t.0 R o) h)
  member_told (Member-F.Slot f) R d s c r h =
      absurd (in_none r (subst (λ (l : List Refusal). Contains l r) (field_is (roll-Member (Member-F.Slot f)) f R (out-roll-Member (Member-F.Slot f))) h))
  member_told (Member-F.Body n) R d s c r h = method_told (roll-Member (Member-F.Body n)) n (out-roll-Member (Member-F.Body n)) R d s c r h

  such_member : (ts : List ((m : Member) × MemberTold m)) (m : Member) → Contains (map (λ e. e.0) ts) m → MemberTold m
  such_member ts m c =
      let u = unmapped (λ (e : (m : Member) × MemberTold m). e.0) ts m c in
      subst MemberTold (sym u.is) u.x.1

  lists_told : (P : Path) (d : Decl) → StandsIn p P d → (r : Refusal)
      → Contains (in_lists (d.name.name ∷ P) d.extends d.shares d.adapts) r → Twice p r
  lists_told P d s r c =
      let u = unmapped (duplicate (d.name.name ∷ P)) (seconds [] d.extends ++ (seconds [] d.shares ++ seconds [] d.adapts)) r c in
      by_list u.x u.is (three (seconds [] d.extends) (seconds [] d.shares) (seconds [] d.adapts) u.x u.among) where
        by_list : (n : Named) → r ≡ duplicate (d.name.name ∷ P) n
            → Contains (seconds [] d.extends) n ⊎ (Contains (seconds [] d.shares) n ⊎ Contains (seconds [] d.adapts) n) → Twice p r
        by_list n e (inl h) = in_body (d.name.name ∷ P) d n (s, refl) (extended (second_is (seconds_to [] d.extends n h))) e
        by_list n e (inr (inl h)) = in_body (d.name.name ∷ P) d n (s, refl) (shared (second_is (seconds_to [] d.shares n h))) e
        by_list n e (inr (inr h)) = in_body (d.name.name ∷ P) d n (s, refl) (adapted (second_is (seconds_to [] d.adapts n h))) e

  members_told : (P : Path) (d : Decl) → StandsIn p P d → ((m : Member) → Contains d.members m → MemberTold m) → (r : Refusal)
      → FoundIn (d.name.name ∷ P) [] d.members r → Twice p r
  unfolding MemberTold
  members_told P d s k r (by_given g t e) = in_body (d.name.name ∷ P) d g.name (s, refl) (given_twice d g t) e
  members_told P d s k r (by_member m c h) = k m c (d.name.name ∷ P) d (s, refl) c r h

  decl_by : (P : Path) (d : Decl) → StandsIn p P d → ((m : Member) → Contains d.members m → MemberTold m) → (r : Refusal)
      → Contains (in_lists (d.name.name ∷ P) d.extends d.shares d.adapts) r ⊎ Contains (in_members (d.name.name ∷ P) [] (map in_member d.members)) r
      → Twice p r
  decl_by P d s k r (inl c) = lists_told P d s r c
  decl_by P d s k r (inr c) = members_told P d s k r (members_found (d.name.name ∷ P) [] d.members r c)

  decl_told : (d : Decl) → ((m : Member) → Contains d.members m → MemberTold m) → DeclTold d
  unfolding DeclTold
  decl_told d k P s r c =
      decl_by P d s k r
      (Contains-append_cases (in_lists (d.name.name ∷ P) d.extends d.shares d.adapts) (in_members (d.name.name ∷ P) [] (map in_member d.members)) r
      (subst (λ (l : List Refusal). Contains l r) (decl_inside d P) c))

  all_told : (d : Decl) → DeclTold d
  unfolding bare
  all_told = ind-Decl MemberTold DeclTold
      (λ x y is. subst (λ z. MemberTold (roll-Member z)) is (member_told y))
      (λ x y is. subst (λ z. DeclTold (roll-Decl z)) is
      (decl_told (roll-Decl (map-Decl _ _ _ _ (λ e. e.0) (λ e. e.0) y)) (λ m c. such_member y.members m c)))

  found_by_top : (r : Refusal) → TopIn [] p.decls r → Twice p r
  unfolding DeclTold
  found_by_top r (top_second n t e) = at_top n (second_is t) e
  found_by_top r (top_within d c h) = all_told d [] c r h

  pub found_twice : (r : Refusal) → Contains (duplicates p) r → Twice p r
  found_twice r c = found_by_top r (top_in [] p.decls r c)
