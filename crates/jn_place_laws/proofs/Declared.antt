-- Each body of a program, in source order, is a method of a declaration.
use Rattle.std.proofs.Common.{◌≡◌, List, [], ◌∷◌, refl, sym, ap, ◌∙◌, subst, ◌⊎◌, inl, inr, Contains, map}
use Rattle.std.proofs.lemmas.List.Elements.{Contains-append_cases}
use Rattle.jn_base.specs.declared.tree.Program.{Program}
use Rattle.jn_base.specs.declared.tree.Method.{Method}
use Rattle.jn_base.specs.declared.tree.Member.{Member, out-Member, roll-Member, out-roll-Member, fold-Member}
use Rattle.jn_base.specs.declared.tree.Member.TheOpen.{Member-F}
use Rattle.jn_base.specs.declared.tree.Member.TheFolds.{map-Member, map-Decl, ind-Decl, fold_out-Member, fold_out-Decl}
use Rattle.jn_base.specs.declared.tree.Decl.{Decl, roll-Decl}
use Rattle.jn_base.specs.Paths.{Path, nested, and_nested, methods, and_method, StandsIn, StandsAt}
use Rattle.jn_base.specs.Members.{MethodAt}
use Rattle.jn_base.proofs.NameTests.{in_cons, in_none, first, later}
use Rattle.jn_sem.specs.Does.{Body}
use Rattle.jn_agree.specs.Rows.{InOrder, of_member, one_by_one, of_decl, bodies_of}

-- ---- the members of a body

nested_in : (o : Member-F Member Decl) (ds : List Decl) (d : Decl) → o ≡ Member-F.Inner d → Contains (and_nested o ds) d
nested_in o ds d e = subst (λ (x : Member-F Member Decl). Contains (and_nested x ds) d) (sym e) (first d ds)

skip_nested : (o : Member-F Member Decl) (ds : List Decl) (d : Decl) → Contains ds d → Contains (and_nested o ds) d
skip_nested (Member-F.Inner f) ds d c = later f ds d c
skip_nested (Member-F.Slot f) ds d c = c
skip_nested (Member-F.Body m) ds d c = c

nested_from : (ms : List Member) (m : Member) (d : Decl) → Contains ms m → out-Member m ≡ Member-F.Inner d
    → Contains (nested ms) d
nested_from [] m d c e = absurd (in_none m c)
nested_from (x ∷ ms) m d c e = by_place (in_cons x ms m c) (λ h. nested_from ms m d h e) where
  by_place : (x ≡ m) ⊎ Contains ms m → (Contains ms m → Contains (nested ms) d) → Contains (nested (x ∷ ms)) d
  by_place (inl h) k = nested_in (out-Member x) (nested ms) d (ap out-Member h ∙ e)
  by_place (inr h) k = skip_nested (out-Member x) (nested ms) d (k h)

methods_in : (o : Member-F Member Decl) (ns : List Method) (n : Method) → o ≡ Member-F.Body n
    → Contains (and_method o ns) n
methods_in o ns n e = subst (λ (x : Member-F Member Decl). Contains (and_method x ns) n) (sym e) (first n ns)

skip_methods : (o : Member-F Member Decl) (ns : List Method) (n : Method) → Contains ns n → Contains (and_method o ns) n
skip_methods (Member-F.Inner f) ns n c = c
skip_methods (Member-F.Slot f) ns n c = c
skip_methods (Member-F.Body m) ns n c = later m ns n c

methods_from : (ms : List Member) (m : Member) (n : Method) → Contains ms m → out-Member m ≡ Member-F.Body n
    → Contains (methods ms) n
methods_from [] m n c e = absurd (in_none m c)
methods_from (x ∷ ms) m n c e = by_place (in_cons x ms m c) (λ h. methods_from ms m n h e) where
  by_place : (x ≡ m) ⊎ Contains ms m → (Contains ms m → Contains (methods ms) n) → Contains (methods (x ∷ ms)) n
  by_place (inl h) k = methods_in (out-Member x) (methods ms) n (ap out-Member h ∙ e)
  by_place (inr h) k = skip_methods (out-Member x) (methods ms) n (k h)

stands_nested : (p : Program) (R : Path) (d : Decl) (m : Member) (e : Decl) → StandsAt p R d → Contains d.members m
    → out-Member m ≡ Member-F.Inner e → StandsIn p R e
stands_nested p [] d m e s c h = absurd s
stands_nested p (C ∷ P) d m e s c h = (d, s.0, s.1, nested_from d.members m e c h)

-- what stands in a mapped list comes from one of its elements
record From {A B : Type 0} (f : A → B) (xs : List A) (y : B) : Type 0 where
  one : A
  among : Contains xs one
  is : y ≡ f one

from_map : {A B : Type 0} (f : A → B) (xs : List A) (y : B) → Contains (map f xs) y → From f xs y
from_map f [] y c = absurd (in_none y c)
from_map f (x ∷ xs) y c = at (in_cons (f x) (map f xs) y c) (λ h. from_map f xs y h) where
  at : (f x ≡ y) ⊎ Contains (map f xs) y → (Contains (map f xs) y → From f xs y) → From f (x ∷ xs) y
  at (inl e) k = record { one = x; among = first x xs; is = sym e }
  at (inr h) k = let u = k h in record { one = u.one; among = later x xs u.one u.among; is = u.is }

-- ---- where each body stands

abbrev of_mem : Member → InOrder
of_mem = fold-Member InOrder InOrder of_member (λ d P. one_by_one d.members (d.name.name ∷ P))

in_order : (xs : List InOrder) (R : Path) (b : Body) → Contains (one_by_one xs R) b
    → (x : InOrder) × Contains xs x × Contains (x R) b
in_order [] R b c = absurd (in_none b c)
in_order (x ∷ xs) R b c = at (Contains-append_cases (x R) (one_by_one xs R) b c) (λ h. in_order xs R b h) where
  at : Contains (x R) b ⊎ Contains (one_by_one xs R) b
      → (Contains (one_by_one xs R) b → (y : InOrder) × Contains xs y × Contains (y R) b)
      → (y : InOrder) × Contains (x ∷ xs) y × Contains (y R) b
  at (inl h) k = (x, first x xs, h)
  at (inr h) k = let u = k h in (u.0, later x xs u.0 u.1, u.2)

module _ (p : Program) where
  IsMethod : Body → Type 0
  IsMethod b = MethodAt p b.class b.method.name.name b.method

  MemberHas : Member → Type 0
  MemberHas m = (R : Path) (d : Decl) → StandsAt p R d → Contains d.members m → (b : Body) → Contains (of_mem m R) b
      → IsMethod b

  DeclHas : Decl → Type 0
  DeclHas d = (P : Path) → StandsIn p P d → (b : Body) → Contains (of_decl d P) b → IsMethod b

  bare : Member-F ((m : Member) × MemberHas m) ((d : Decl) × DeclHas d) → Member-F Member Decl
  bare = map-Member _ _ _ _ (λ e. e.0) (λ e. e.0)

  opened : (m : Member) → of_mem m ≡ of_member (map-Member _ _ _ _ of_mem of_decl (out-Member m))
  unfolding of_decl
  opened m = fold_out-Member InOrder InOrder of_member (λ d P. one_by_one d.members (d.name.name ∷ P)) m

  order_is : (d : Decl) (P : Path) → of_decl d P ≡ one_by_one (map of_mem d.members) (d.name.name ∷ P)
  unfolding of_decl
  order_is d P = ap (λ (x : InOrder). x P)
      (fold_out-Decl InOrder InOrder of_member (λ d P. one_by_one d.members (d.name.name ∷ P)) d)

  mem_is : (m : Member) (o : Member-F Member Decl) (R : Path) → out-Member m ≡ o
      → of_mem m R ≡ of_member (map-Member _ _ _ _ of_mem of_decl o) R
  mem_is m o R e = ap (λ (x : InOrder). x R) (opened m)
      ∙ ap (λ (z : Member-F Member Decl). of_member (map-Member _ _ _ _ of_mem of_decl z) R) e

  body_has : (m : Member) (n : Method) → out-Member m ≡ Member-F.Body n → (R : Path) (d : Decl) → StandsAt p R d
      → Contains d.members m → (b : Body) → Contains (of_mem m R) b → IsMethod b
  unfolding IsMethod
  body_has m n e R d s c b h =
      at (in_cons (record { class = R; method = n }) [] b
      (subst (λ (l : List Body). Contains l b) (mem_is m (Member-F.Body n) R e) h)) where
        at : (let a : Body = record { class = R; method = n } in a ≡ b) ⊎ Contains [] b → IsMethod b
        at (inl i) = subst IsMethod i
            (record { decl = d; stands = s; has = methods_from d.members m n c e; name = refl })
        at (inr i) = absurd (in_none b i)

  member_has : (y : Member-F ((m : Member) × MemberHas m) ((d : Decl) × DeclHas d)) → MemberHas (roll-Member (bare y))
  unfolding MemberHas DeclHas bare
  member_has (Member-F.Inner t) R d s c b h =
      let m = roll-Member (Member-F.Inner t.0) in
      let o = out-roll-Member (Member-F.Inner t.0) in
      t.1 R (stands_nested p R d m t.0 s c o) b
      (subst (λ (l : List Body). Contains l b) (mem_is m (Member-F.Inner t.0) R o) h)
  member_has (Member-F.Slot f) R d s c b h =
      let m = roll-Member (Member-F.Slot f) in
      let o = out-roll-Member (Member-F.Slot f) in
      absurd (in_none b (subst (λ (l : List Body). Contains l b) (mem_is m (Member-F.Slot f) R o) h))
  member_has (Member-F.Body n) R d s c b h =
      body_has (roll-Member (Member-F.Body n)) n (out-roll-Member (Member-F.Body n)) R d s c b h

  such_member : (ts : List ((m : Member) × MemberHas m)) (m : Member) → Contains (map (λ e. e.0) ts) m → MemberHas m
  such_member ts m c =
      let u = from_map (λ (e : (m : Member) × MemberHas m). e.0) ts m c in
      subst MemberHas (sym u.is) u.one.1

  decl_has : (d : Decl) → ((m : Member) → Contains d.members m → MemberHas m) → DeclHas d
  unfolding DeclHas MemberHas
  decl_has d k P s b c =
      let u = in_order (map of_mem d.members) (d.name.name ∷ P) b
      (subst (λ (l : List Body). Contains l b) (order_is d P) c) in
      let v = from_map of_mem d.members u.0 u.1 in
      k v.one v.among (d.name.name ∷ P) d (s, refl) v.among b
      (subst (λ (x : InOrder). Contains (x (d.name.name ∷ P)) b) v.is u.2)

  each_has : (d : Decl) → DeclHas d
  unfolding bare
  each_has = ind-Decl MemberHas DeclHas
      (λ x y is. subst (λ z. MemberHas (roll-Member z)) is (member_has y))
      (λ x y is. subst (λ z. DeclHas (roll-Decl z)) is
      (decl_has (roll-Decl (map-Decl _ _ _ _ (λ e. e.0) (λ e. e.0) y)) (λ m c. such_member y.members m c)))

  pub declared : (b : Body) → Contains (bodies_of p) b → MethodAt p b.class b.method.name.name b.method
  unfolding DeclHas IsMethod
  declared b c =
      let u = in_order (map of_decl p.decls) [] b c in
      let v = from_map of_decl p.decls u.0 u.1 in
      each_has v.one [] v.among b (subst (λ (x : InOrder). Contains (x []) b) v.is u.2)
