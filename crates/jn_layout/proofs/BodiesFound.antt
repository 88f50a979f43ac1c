-- The bodies of a program are the methods of its declarations.
use Rattle.std.proofs.Common.{◌≡◌, List, [], ◌∷◌, refl, sym, ap, ◌∙◌, subst, ◌⊎◌, inl, inr, Contains, map}
use Rattle.std.proofs.lemmas.List.Elements.{Contains-append_left, Contains-append_right, Contains-append_cases}
use Rattle.jn_base.specs.declared.tree.Name.{Name}
use Rattle.jn_base.specs.declared.tree.Method.{Method}
use Rattle.jn_base.specs.declared.tree.Program.{Program}
use Rattle.jn_base.specs.declared.tree.Member.{Member, out-Member, roll-Member, out-roll-Member}
use Rattle.jn_base.specs.declared.tree.Member.TheOpen.{Member-F}
use Rattle.jn_base.specs.declared.tree.Member.TheFolds.{map-Member, map-Decl, ind-Decl}
use Rattle.jn_base.specs.declared.tree.Decl.{Decl, roll-Decl}
use Rattle.jn_base.specs.Paths.{Path, nested, and_nested, methods, and_method, StandsIn, StandsAt}
use Rattle.jn_base.specs.Members.{MethodAt}
use Rattle.jn_base.proofs.NameTests.{in_cons, in_none, first, later}
use Rattle.jn_base.proofs.FoundTwice.{unmapped}
use Rattle.jn_sem.specs.Does.{Body}
use Rattle.jn_agree.specs.Rows.{InOrder, of_decl, bodies_of}
use Rattle.jn_layout.specs.Shapes.{bodies_in, all_bodies}
use Rattle.jn_layout.proofs.Adding.{bodies_at_decl, opened}

-- ---- lists

in_by : {A : Type 0} (f : A → InOrder) (R : Path) (ms : List A) (m : A) (x : Body) → Contains ms m → Contains (f m R) x → Contains (all_bodies R (map f ms)) x
in_by f R [] m x c h = absurd (in_none m c)
in_by f R (n ∷ ms) m x c h = by_place (in_cons n ms m c) (λ k. in_by f R ms m x k h) where
  by_place : (n ≡ m) ⊎ Contains ms m → (Contains ms m → Contains (all_bodies R (map f ms)) x) → Contains (all_bodies R (map f (n ∷ ms))) x
  by_place (inl e) k = Contains-append_left (f n R) (all_bodies R (map f ms)) x (subst (λ (y : _). Contains (f y R) x) (sym e) h)
  by_place (inr i) k = Contains-append_right (f n R) (all_bodies R (map f ms)) x (k i)

pub record FoundBy {A : Type 0} (f : A → InOrder) (R : Path) (ms : List A) (x : Body) : Type 0 where
  pub member : A
  pub among : Contains ms member
  pub has : Contains (f member R) x

found_later : {A : Type 0} (f : A → InOrder) (R : Path) (n : A) (ms : List A) (x : Body) → FoundBy f R ms x → FoundBy f R (n ∷ ms) x
found_later f R n ms x w = record { member = w.member; among = later n ms w.member w.among; has = w.has }

pub by_in : {A : Type 0} (f : A → InOrder) (R : Path) (ms : List A) (x : Body) → Contains (all_bodies R (map f ms)) x → FoundBy f R ms x
by_in f R [] x c = absurd (in_none x c)
by_in f R (n ∷ ms) x c = by_part (Contains-append_cases (f n R) (all_bodies R (map f ms)) x c) (λ k. by_in f R ms x k) where
  by_part : Contains (f n R) x ⊎ Contains (all_bodies R (map f ms)) x → (Contains (all_bodies R (map f ms)) x → FoundBy f R ms x) → FoundBy f R (n ∷ ms) x
  by_part (inl h) k = record { member = n; among = first n ms; has = h }
  by_part (inr h) k = found_later f R n ms x (k h)

-- ---- each field of a declaration is found

abbrev pub body_at : Path → Method → Body
body_at R g = record { class = R; method = g }

in_members : (R : Path) (ms : List Member) (g : Method) → Contains (methods ms) g → Contains (all_bodies R (map bodies_in ms)) (body_at R g)
in_members R [] g c = absurd (in_none g c)
in_members R (m ∷ ms) g c = by_form (out-Member m) refl c (λ k. in_members R ms g k) where
  skip : Contains (all_bodies R (map bodies_in ms)) (body_at R g) → Contains (all_bodies R (map bodies_in (m ∷ ms))) (body_at R g)
  skip h = Contains-append_right (bodies_in m R) (all_bodies R (map bodies_in ms)) (body_at R g) h

  by_place : (h : Method) → out-Member m ≡ Member-F.Body h → (h ≡ g) ⊎ Contains (methods ms) g
      → (Contains (methods ms) g → Contains (all_bodies R (map bodies_in ms)) (body_at R g)) → Contains (all_bodies R (map bodies_in (m ∷ ms))) (body_at R g)
  by_place h i (inl q) k =
      Contains-append_left (bodies_in m R) (all_bodies R (map bodies_in ms)) (body_at R g)
      (subst (λ (l : List Body). Contains l (body_at R g)) (sym (opened m (Member-F.Body h) i R ∙ ap (λ (y : Method). body_at R y ∷ []) q)) (first (body_at R g) []))
  by_place h i (inr q) k = skip (k q)

  by_form : (o : Member-F Member Decl) → out-Member m ≡ o → Contains (and_method o (methods ms)) g
      → (Contains (methods ms) g → Contains (all_bodies R (map bodies_in ms)) (body_at R g)) → Contains (all_bodies R (map bodies_in (m ∷ ms))) (body_at R g)
  by_form (Member-F.Inner d) i c k = skip (k c)
  by_form (Member-F.Body h) i c k = by_place h i (in_cons h (methods ms) g c) k
  by_form (Member-F.Slot n) i c k = skip (k c)

nested_in_members : (R : Path) (ms : List Member) (e : Decl) (x : Body) → Contains (nested ms) e → Contains (of_decl e R) x
    → Contains (all_bodies R (map bodies_in ms)) x
nested_in_members R [] e x c h = absurd (in_none e c)
nested_in_members R (m ∷ ms) e x c h = by_form (out-Member m) refl c (λ k. nested_in_members R ms e x k h) where
  by_place : (d : Decl) → out-Member m ≡ Member-F.Inner d → (d ≡ e) ⊎ Contains (nested ms) e → (Contains (nested ms) e → Contains (all_bodies R (map bodies_in ms)) x)
      → Contains (all_bodies R (map bodies_in (m ∷ ms))) x
  by_place d i (inl q) k =
      Contains-append_left (bodies_in m R) (all_bodies R (map bodies_in ms)) x
      (subst (λ (l : List Body). Contains l x) (sym (opened m (Member-F.Inner d) i R ∙ ap (λ (y : Decl). of_decl y R) q)) h)
  by_place d i (inr q) k = Contains-append_right (bodies_in m R) (all_bodies R (map bodies_in ms)) x (k q)

  by_form : (o : Member-F Member Decl) → out-Member m ≡ o → Contains (and_nested o (nested ms)) e → (Contains (nested ms) e → Contains (all_bodies R (map bodies_in ms)) x)
      → Contains (all_bodies R (map bodies_in (m ∷ ms))) x
  by_form (Member-F.Inner d) i c k = by_place d i (in_cons d (nested ms) e c) k
  by_form (Member-F.Body f) i c k = Contains-append_right (bodies_in m R) (all_bodies R (map bodies_in ms)) x (k c)
  by_form (Member-F.Slot n) i c k = Contains-append_right (bodies_in m R) (all_bodies R (map bodies_in ms)) x (k c)

found_out : (p : Program) (P : Path) (d : Decl) (x : Body) → StandsIn p P d → Contains (of_decl d P) x → Contains (bodies_of p) x
found_out p [] d x s c = in_by of_decl [] p.decls d x s c
found_out p (C ∷ P) d x s c =
    let e : Decl = s.0 in
    found_out p P e x s.1
    (subst (λ (l : List Body). Contains l x) (sym (bodies_at_decl e P))
    (nested_in_members (e.name.name ∷ P) e.members d x s.3 (subst (λ (N : Name). Contains (of_decl d (N ∷ P)) x) (sym s.2) c)))

found_at : (p : Program) (Q : Path) (d : Decl) (g : Method) → StandsAt p Q d → Contains (methods d.members) g → Contains (bodies_of p) (body_at Q g)
found_at p [] d g s c = absurd s
found_at p (C ∷ P) d g s c =
    found_out p P d (body_at (C ∷ P) g) s.0
    (subst (λ (l : List Body). Contains l (body_at (C ∷ P) g)) (sym (bodies_at_decl d P))
    (subst (λ (N : Name). Contains (all_bodies (d.name.name ∷ P) (map bodies_in d.members)) (body_at (N ∷ P) g)) s.1 (in_members (d.name.name ∷ P) d.members g c)))

pub body_found : (p : Program) (Q : Path) (f : Name) (g : Method) → MethodAt p Q f g → Contains (bodies_of p) (record { class = Q; method = g })
body_found p Q f g w = found_at p Q w.decl g w.stands w.has

-- ---- and nothing else

nested_in : (o : Member-F Member Decl) (ds : List Decl) (d : Decl) → o ≡ Member-F.Inner d → Contains (and_nested o ds) d
nested_in o ds d e = subst (λ (x : Member-F Member Decl). Contains (and_nested x ds) d) (sym e) (first d ds)

skip_nested : (o : Member-F Member Decl) (ds : List Decl) (d : Decl) → Contains ds d → Contains (and_nested o ds) d
skip_nested (Member-F.Inner f) ds d c = later f ds d c
skip_nested (Member-F.Body f) ds d c = c
skip_nested (Member-F.Slot m) ds d c = c

pub nested_from : (ms : List Member) (m : Member) (d : Decl) → Contains ms m → out-Member m ≡ Member-F.Inner d → Contains (nested ms) d
nested_from [] m d c e = absurd (in_none m c)
nested_from (x ∷ ms) m d c e = by_place (in_cons x ms m c) (λ h. nested_from ms m d h e) where
  by_place : (x ≡ m) ⊎ Contains ms m → (Contains ms m → Contains (nested ms) d) → Contains (nested (x ∷ ms)) d
  by_place (inl h) k = nested_in (out-Member x) (nested ms) d (ap out-Member h ∙ e)
  by_place (inr h) k = skip_nested (out-Member x) (nested ms) d (k h)

method_in : (o : Member-F Member Decl) (gs : List Method) (g : Method) → o ≡ Member-F.Body g → Contains (and_method o gs) g
method_in o gs g e = subst (λ (x : Member-F Member Decl). Contains (and_method x gs) g) (sym e) (first g gs)

skip_method : (o : Member-F Member Decl) (gs : List Method) (g : Method) → Contains gs g → Contains (and_method o gs) g
skip_method (Member-F.Inner d) gs g c = c
skip_method (Member-F.Body f) gs g c = later f gs g c
skip_method (Member-F.Slot m) gs g c = c

pub method_from : (ms : List Member) (m : Member) (g : Method) → Contains ms m → out-Member m ≡ Member-F.Body g → Contains (methods ms) g
method_from [] m g c e = absurd (in_none m c)
method_from (x ∷ ms) m g c e = by_place (in_cons x ms m c) (λ h. method_from ms m g h e) where
  by_place : (x ≡ m) ⊎ Contains ms m → (Contains ms m → Contains (methods ms) g) → Contains (methods (x ∷ ms)) g
  by_place (inl h) k = method_in (out-Member x) (methods ms) g (ap out-Member h ∙ e)
  by_place (inr h) k = skip_method (out-Member x) (methods ms) g (k h)

module _ (p : Program) where
  MemberTold : Member → Type 0
  MemberTold m = (R : Path) → ((e : Decl) → out-Member m ≡ Member-F.Inner e → StandsIn p R e) → ((g : Method) → out-Member m ≡ Member-F.Body g → MethodAt p R g.name.name g)
      → (x : Body) → Contains (bodies_in m R) x → MethodAt p x.class x.method.name.name x.method

  DeclTold : Decl → Type 0
  DeclTold d = (P : Path) → StandsIn p P d → (x : Body) → Contains (of_decl d P) x → MethodAt p x.class x.method.name.name x.method

  bare : Member-F ((m : Member) × MemberTold m) ((d : Decl) × DeclTold d) → Member-F Member Decl
  bare = map-Member _ _ _ _ (λ e. e.0) (λ e. e.0)

  by_one : (y x : Body) → MethodAt p y.class y.method.name.name y.method → (y ≡ x) ⊎ Contains [] x → MethodAt p x.class x.method.name.name x.method
  by_one y x w (inl e) = subst (λ (z : Body). MethodAt p z.class z.method.name.name z.method) e w
  by_one y x w (inr c) = absurd (in_none x c)

  member_told : (y : Member-F ((m : Member) × MemberTold m) ((d : Decl) × DeclTold d)) → MemberTold (roll-Member (bare y))
  unfolding MemberTold DeclTold bare
  member_told (Member-F.Inner t) R k s x h =
      let o = out-roll-Member (Member-F.Inner t.0) in
      t.1 R (k t.0 o) x (subst (λ (l : List Body). Contains l x) (opened (roll-Member (Member-F.Inner t.0)) (Member-F.Inner t.0) o R) h)
  member_told (Member-F.Body f) R k s x h =
      let o = out-roll-Member (Member-F.Body f) in
      by_one (body_at R f) x (s f o)
      (in_cons (body_at R f) [] x (subst (λ (l : List Body). Contains l x) (opened (roll-Member (Member-F.Body f)) (Member-F.Body f) o R) h))
  member_told (Member-F.Slot n) R k s x h =
      absurd (in_none x (subst (λ (l : List Body). Contains l x) (opened (roll-Member (Member-F.Slot n)) (Member-F.Slot n) (out-roll-Member (Member-F.Slot n)) R) h))

  such_member : (ts : List ((m : Member) × MemberTold m)) (m : Member) → Contains (map (λ e. e.0) ts) m → MemberTold m
  such_member ts m c =
      let u = unmapped (λ (e : (m : Member) × MemberTold m). e.0) ts m c in
      subst MemberTold (sym u.is) u.x.1

  decl_told : (d : Decl) → ((m : Member) → Contains d.members m → MemberTold m) → DeclTold d
  unfolding MemberTold DeclTold
  decl_told d k P s x c =
      let R : Path = d.name.name ∷ P in
      let w = by_in bodies_in R d.members x (subst (λ (l : List Body). Contains l x) (bodies_at_decl d P) c) in
      k w.member w.among R
      (λ e o. (d, s, refl, nested_from d.members w.member e w.among o))
      (λ g o. record { decl = d; stands = (s, refl); has = method_from d.members w.member g w.among o; name = refl })
      x w.has

  all_told : (d : Decl) → DeclTold d
  unfolding bare
  all_told = ind-Decl MemberTold DeclTold
      (λ x y is. subst (λ z. MemberTold (roll-Member z)) is (member_told y))
      (λ x y is. subst (λ z. DeclTold (roll-Decl z)) is
      (decl_told (roll-Decl (map-Decl _ _ _ _ (λ e. e.0) (λ e. e.0) y)) (λ m c. such_member y.members m c)))

  pub found_body : (x : Body) → Contains (bodies_of p) x → MethodAt p x.class x.method.name.name x.method
  unfolding DeclTold
  found_body x c = let w = by_in of_decl [] p.decls x c in all_told w.member [] w.among x w.has
