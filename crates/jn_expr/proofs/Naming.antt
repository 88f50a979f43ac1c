-- The methods and fields of a declaration, found by their names.
use Rattle.std.proofs.Common.{◌≡◌, ◌∙◌, ◌<◌, ◌+◌, ℕ, List, [], ◌∷◌, ◌++◌, length, drop, get_or, refl, sym, ap, subst, Contains, Option, Some, None, append-nil, append_assoc, inl, inr}
use Rattle.std.proofs.Common.{zero, suc, slice_get, IfSome, rules}
use Rattle.std.proofs.lemmas.List.Elements.{Contains-append_left, Contains-append_right, Contains-append_cases}
use Rattle.jn_base.specs.declared.tree.Name.{Name}
use Rattle.jn_base.specs.declared.tree.Program.{Program}
use Rattle.jn_base.specs.declared.tree.Decl.{Decl}
use Rattle.jn_base.specs.declared.tree.Field.{Field}
use Rattle.jn_base.specs.declared.tree.Method.{Method}
use Rattle.jn_base.specs.declared.tree.Member.{Member, out-Member}
use Rattle.jn_base.specs.declared.tree.Member.TheOpen.{Member-F}
use Rattle.jn_base.specs.declared.tree.Member.TheVariants as member
use Rattle.jn_base.specs.declared.tree.Member.TheVariants.{outs-Inner, outs-Slot, outs-Body}
use Rattle.jn_base.specs.Paths.{Path, StandsAt, methods, fields, and_method, and_field}
use Rattle.jn_base.specs.Duplicates.{duplicates}
use Rattle.jn_base.proofs.NameTests.{in_cons, in_none, first}
use Rattle.jn_base.proofs.Unique.{one_decl}
use Rattle.jn_homes.proofs.Places.{at_index}
use Rattle.jn_homes.specs.Homes.{DeclIs}
use Rattle.jn_expr.specs.Found.{FindsNamed, method_name, field_name, MethodIs, FieldIs}

-- what the members so far have is of no such name
pub record Searched {T : Type 0} (of : List Member → List T) (name_of : T → Name) (all left : List Member) (x : Name) : Type 0 where
  pub front : List T
  pub split : of all ≡ front ++ of left
  pub none : (d : T) → Contains front d → name_of d ≡ x → ⊥

module _ {T : Type 0} (of : List Member → List T) (name_of : T → Name) where
  pub searched_none : (all : List Member) (x : Name) → Searched of name_of all all x
  searched_none all x = record { front = []; split = refl; none = λ d c is. in_none d c }

  pub searched_all : of [] ≡ [] → (all left : List Member) (x : Name) → Searched of name_of all left x → left ≡ [] → FindsNamed name_of (of all) x None
  searched_all e all left x s h d c is =
      s.none d (subst (λ (ds : List T). Contains ds d) (s.split ∙ (ap (λ (l : List Member). s.front ++ of l) h ∙ (ap (λ (l : List T). s.front ++ l) e ∙ append-nil s.front))) c) is

  module _ (split : (m : Member) (ms : List Member) → of (m ∷ ms) ≡ of (m ∷ []) ++ of ms) (all : List Member) (i : ℕ) (m : Member) (x : Name) where
    opened : i < length all → m ≡ get_or all i m → (s : Searched of name_of all (drop i all) x)
        → of all ≡ s.front ++ (of (m ∷ []) ++ of (drop (i + 1) all))
    opened h e s = s.split ∙ ap (λ (ds : List T). s.front ++ ds) (ap of (at_index all i m h e) ∙ split m (drop (i + 1) all))

    pub searched_hit : (d : T) → Searched of name_of all (drop i all) x → i < length all → m ≡ get_or all i m → FindsNamed name_of (of (m ∷ [])) x (Some d)
        → FindsNamed name_of (of all) x (Some d)
    searched_hit d s h e found = (
      subst (λ (ds : List T). Contains ds d) (sym (opened h e s))
          (Contains-append_right s.front (of (m ∷ []) ++ of (drop (i + 1) all)) d (Contains-append_left (of (m ∷ [])) (of (drop (i + 1) all)) d found.0)),
      found.1,
    )

    pub searched_next : Searched of name_of all (drop i all) x → i < length all → m ≡ get_or all i m → FindsNamed name_of (of (m ∷ [])) x None
        → Searched of name_of all (drop (i + 1) all) x
    searched_next s h e none = record {
      front = s.front ++ of (m ∷ []);
      split = opened h e s ∙ sym (append_assoc s.front (of (m ∷ [])) (of (drop (i + 1) all)));
      none = λ d c is. elim (Contains-append_cases s.front (of (m ∷ [])) d c) [ inl h' ↦ s.none d h' is | inr h' ↦ none d h' is ];
    }

  -- what stands at a place is one of those of the list
  module _ (split : (m : Member) (ms : List Member) → of (m ∷ ms) ≡ of (m ∷ []) ++ of ms) where
    among_here : (ms : List Member) (k : ℕ) (m : Member) (d : T) → slice_get ms k ≡ Some m → Contains (of (m ∷ [])) d
        → Contains (of ms) d
    among_here [] k m d e c = cc
    among_here (y ∷ ms) zero m d e c =
        let same : y ≡ m = here e in
        subst (λ (ds : List T). Contains ds d) (sym (split y ms))
        (Contains-append_left (of (y ∷ [])) (of ms) d
        (subst (λ (z : Member). Contains (of (z ∷ [])) d) (sym same) c)) where
          here : Some y ≡ Some m → y ≡ m
          here e = cc
    among_here (y ∷ ms) (suc k) m d e c =
        subst (λ (ds : List T). Contains ds d) (sym (split y ms))
        (Contains-append_right (of (y ∷ [])) (of ms) d (among_here ms k m d e c))

    pub named_here : (ms : List Member) (k : ℕ) (m : Member) (x : Name) (o : Option T) → slice_get ms k ≡ Some m
        → FindsNamed name_of (of (m ∷ [])) x o → IfSome o (λ d. Contains (of ms) d × (name_of d ≡ x))
    named_here ms k m x None e f = search rules
    named_here ms k m x (Some d) e f = search (rules, among_here ms k m d e f.0, f.1)

-- ---- methods

methods_behind : (o : Member-F Member Decl) (ds : List Method) → and_method o ds ≡ and_method o [] ++ ds
methods_behind (Member-F.Inner d) ds = refl
methods_behind (Member-F.Slot f) ds = refl
methods_behind (Member-F.Body f) ds = refl

pub methods_split : (m : Member) (ms : List Member) → methods (m ∷ ms) ≡ methods (m ∷ []) ++ methods ms
methods_split m ms = methods_behind (out-Member m) (methods ms)

pub method_found : (m : Member) (d : Method) (x : Name) → m ≡ member.Body d → d.name.name ≡ x → FindsNamed method_name (methods (m ∷ [])) x (Some d)
method_found m d x e is = (subst (λ (o : Member-F Member Decl). Contains (and_method o []) d) (sym (ap out-Member e ∙ outs-Body d)) (first d []), is)

pub method_other : (m : Member) (d : Method) (x : Name) → m ≡ member.Body d → (d.name.name ≡ x → ⊥) → FindsNamed method_name (methods (m ∷ [])) x None
method_other m d x e not f c is =
    elim (in_cons d [] f (subst (λ (o : Member-F Member Decl). Contains (and_method o []) f) (ap out-Member e ∙ outs-Body d) c)) [
      | inl same ↦ not (ap (λ (y : Method). y.name.name) same ∙ is)
      | inr h ↦ in_none f h
    ]

pub inner_no_method : (m : Member) (g : Decl) (x : Name) → m ≡ member.Inner g → FindsNamed method_name (methods (m ∷ [])) x None
inner_no_method m g x e f c is = in_none f (subst (λ (o : Member-F Member Decl). Contains (and_method o []) f) (ap out-Member e ∙ outs-Inner g) c)

pub slot_no_method : (m : Member) (g : Field) (x : Name) → m ≡ member.Slot g → FindsNamed method_name (methods (m ∷ [])) x None
slot_no_method m g x e f c is = in_none f (subst (λ (o : Member-F Member Decl). Contains (and_method o []) f) (ap out-Member e ∙ outs-Slot g) c)

-- ---- fields

fields_behind : (o : Member-F Member Decl) (ds : List Field) → and_field o ds ≡ and_field o [] ++ ds
fields_behind (Member-F.Inner d) ds = refl
fields_behind (Member-F.Slot f) ds = refl
fields_behind (Member-F.Body f) ds = refl

pub fields_split : (m : Member) (ms : List Member) → fields (m ∷ ms) ≡ fields (m ∷ []) ++ fields ms
fields_split m ms = fields_behind (out-Member m) (fields ms)

pub field_found : (m : Member) (d : Field) (x : Name) → m ≡ member.Slot d → d.name.name ≡ x → FindsNamed field_name (fields (m ∷ [])) x (Some d)
field_found m d x e is = (subst (λ (o : Member-F Member Decl). Contains (and_field o []) d) (sym (ap out-Member e ∙ outs-Slot d)) (first d []), is)

pub field_other : (m : Member) (d : Field) (x : Name) → m ≡ member.Slot d → (d.name.name ≡ x → ⊥) → FindsNamed field_name (fields (m ∷ [])) x None
field_other m d x e not f c is =
    elim (in_cons d [] f (subst (λ (o : Member-F Member Decl). Contains (and_field o []) f) (ap out-Member e ∙ outs-Slot d) c)) [
      | inl same ↦ not (ap (λ (y : Field). y.name.name) same ∙ is)
      | inr h ↦ in_none f h
    ]

pub inner_no_field : (m : Member) (g : Decl) (x : Name) → m ≡ member.Inner g → FindsNamed field_name (fields (m ∷ [])) x None
inner_no_field m g x e f c is = in_none f (subst (λ (o : Member-F Member Decl). Contains (and_field o []) f) (ap out-Member e ∙ outs-Inner g) c)

pub body_no_field : (m : Member) (g : Method) (x : Name) → m ≡ member.Body g → FindsNamed field_name (fields (m ∷ [])) x None
body_no_field m g x e f c is = in_none f (subst (λ (o : Member-F Member Decl). Contains (and_field o []) f) (ap out-Member e ∙ outs-Body g) c)

-- ---- of the declaration at a path

module _ (p : Program) (Q : Path) (m : Name) where
  pub no_decl_method : DeclIs p Q None → MethodIs p Q m None
  no_decl_method none = λ x h. none (record { decl = h.decl; stands = h.stands })

  pub no_decl_field : DeclIs p Q None → FieldIs p Q m None
  no_decl_field none = λ x h. none (record { decl = h.decl; stands = h.stands })

  pub decl_method : duplicates p ≡ [] → (d : Decl) → StandsAt p Q d → (o : Option Method) → FindsNamed method_name (methods d.members) m o → MethodIs p Q m o
  decl_method once d s (Some x) h = record { decl = d; stands = s; has = h.0; name = h.1 }
  decl_method once d s None h = λ x k. h x (subst (λ (e : Decl). Contains (methods e.members) x) (one_decl p once Q k.decl d k.stands s) k.has) k.name

  pub decl_field : duplicates p ≡ [] → (d : Decl) → StandsAt p Q d → (o : Option Field) → FindsNamed field_name (fields d.members) m o → FieldIs p Q m o
  decl_field once d s (Some x) h = record { decl = d; stands = s; has = h.0; name = h.1 }
  decl_field once d s None h = λ x k. h x (subst (λ (e : Decl). Contains (fields e.members) x) (one_decl p once Q k.decl d k.stands s) k.has) k.name
