-- The class that `new` makes, by the views of a frame: which shape its constructor has.
use Rattle.std.proofs.Common.{◌≡◌, ℕ, List, [], ◌∷◌, ◌++◌, length, refl, sym, ap, ◌∙◌, subst, append_assoc}
use Rattle.jn_base.specs.declared.tree.Name.{Name}
use Rattle.jn_base.specs.declared.tree.Term.{Term}
use Rattle.jn_base.specs.declared.tree.Program.{Program}
use Rattle.jn_base.specs.declared.types.Anchor.TheVariants.{Up}
use Rattle.jn_base.specs.declared.names.Role.TheVariants as role
use Rattle.jn_base.specs.declared.names.Var.{Var}
use Rattle.jn_base.specs.Paths.{Path}
use Rattle.jn_base.specs.Supers.{Sup}
use Rattle.jn_base.specs.Atoms.{Atom, atom_at, anchor_at}
use Rattle.jn_base.specs.Scopes.{Scope, bound, bound_of}
use Rattle.jn_base.specs.Fits.{Anchored}
use Rattle.jn_code.specs.declared.image.Image.{Image}
use Rattle.jn_code.specs.declared.image.Shape.{Shape}
use Rattle.jn_sem.specs.Sets.{view_at}
use Rattle.jn_sem.specs.Sharing.{IsClass}
use Rattle.jn_sem.specs.State.{Heap, Frame, frame_views}
use Rattle.jn_sem.specs.Terms.{TermIs}
use Rattle.jn_sem.specs.Does.{Body, IsBody, IsConstructorBody, IsNewClass}
use Rattle.jn_sem.proofs.FindingLaws.{finds_one}
use Rattle.jn_laws.specs.LawsOfWritten.{HeaderPath, HeaderPaths}
use Rattle.jn_rules.specs.Headers.{Header}
use Rattle.jn_rules.specs.Exprs.{made_exact}
use Rattle.jn_rule_laws.specs.LawsOfHeaders.{IsHeader}
use Rattle.jn_rule_laws.specs.LawsOfMembers.{SignaturesOf}
use Rattle.jn_rule_laws.proofs.SameSignatures.{signatures}
use Rattle.jn_sound.specs.Takes.{Opd, typing}
use Rattle.jn_sound.specs.Steps.{Standing}
use Rattle.jn_sound.proofs.Laws.{Laws}
use Rattle.jn_sound.proofs.MadeClass.{made_class, made_super}
use Rattle.jn_sound.proofs.Makes.{new_class_is}
use Rattle.jn_sound.proofs.Start.{header_there}
use Rattle.jn_sound.proofs.Ways.{surely, and_so}
use Rattle.jn_agree.specs.Naming.{Naming}
use Rattle.jn_agree.specs.Rows.{RowsAre, IsShape, result_kind}
use Rattle.jn_agree.specs.Places.{MethodOf}
use Rattle.jn_node_laws.specs.Cont.{trimmed}
use Rattle.jn_node_laws.specs.Facts.{MakesWell, MakesBare}
use Rattle.jn_node_laws.proofs.Starts.{has_selector}
use Rattle.jn_place_laws.specs.Contexts.{context, Stood, site_at}
use Rattle.jn_place_laws.proofs.Stable.{sure_nat, sure_nats}
use Rattle.jn_place_laws.proofs.Calls.{kinds_of, has_shape, shape_at}
use Rattle.jn_place_laws.proofs.Seen.{keeps_there}

-- a path behind others keeps the first one's head
record Headed (C : Name) (R : Path) : Type 0 where
  rest : Path
  is : R ≡ C ∷ rest

headed : (C : Name) (P ns es R : Path) → ns ++ es ≡ C ∷ P → Headed C (ns ++ (es ++ R))
headed C P ns es R e = record {
  rest = P ++ R;
  is = sym (append_assoc ns es R) ∙ ap (λ (l : Path). l ++ R) e;
}

no_kinds : (ks : List ℕ) → length ks ≡ 0 → ks ≡ []
no_kinds [] e = refl
no_kinds (x ∷ xs) e = cc

no_vars : (xs : List Var) → length xs ≡ 0 → xs ≡ []
no_vars [] e = refl
no_vars (x ∷ xs) e = cc

head_same : (C D : Name) (P Q : Path) → C ∷ P ≡ D ∷ Q → C ≡ D
head_same C D P Q e = cc

module _ (p : Program) (laws : Laws p) (i : Image) (n : Naming) (rows : RowsAre p i n) (r : Frame) (hd : Header)
    (vs : List Var) (s : Scope) (u : Term) (x : Atom) (is : TermIs p role.New (site_at r hd vs) u x)
    (paths : HeaderPaths vs (made_exact x)) (path : (q k : ℕ) → x.anchor ≡ Up q k → HeaderPath vs q)
    (anch : Anchored s x.anchor) (class : IsClass p (bound s x)) where
  sigs : SignaturesOf p
  sigs = signatures p laws.passes.bodies.once laws.passes.bodies.headers.limits.members

  -- what is known of the class
  record Known (V : Path) : Type 0 where
    is_class : IsClass p V
    super : Sup p V (bound s x)

  known_of : (ops : List Opd) (f : Frame) (h : Heap) (V : Path) → IsNewClass p (trimmed (site_at r hd vs) f) u V
      → Standing p r hd vs (typing s ops) f h → Known V × (V ≡ atom_at (view_at (frame_views (trimmed (site_at r hd vs) f))) x)
  known_of ops f h V new z =
      let e : V ≡ atom_at (view_at (frame_views (trimmed (site_at r hd vs) f))) x =
      (finds_one p).new_class (trimmed (site_at r hd vs) f) u V
      (atom_at (view_at (frame_views (trimmed (site_at r hd vs) f))) x) new
      (new_class_is f f.todo u x z.at.stands.in_scope paths
      (subst (λ (R : Path). TermIs p role.New (record { class = R; method = f.method.name.name; vars = vs }) u x)
      (sym z.stays.class)
      (subst (λ (N : Name). TermIs p role.New (record { class = r.class; method = N; vars = vs }) u x)
      (ap (λ m. m.name.name) (sym z.stays.method)) is))) in (
        subst Known (sym e) (record {
          is_class = made_class z.at.stands.in_scope x paths class;
          super = made_super z.at.stands.in_scope x paths class.universe;
        }),
        e,
      )

  -- where the bound has a constructor, and the selector has its shape
  pub makes_by : (C : Name) (P : Path) (shape : Shape) (b0 : Body) (c : Header) → x.names ++ x.exact ≡ C ∷ P
      → IsConstructorBody p (bound s x) b0 → IsHeader p b0 c → IsShape c.vars c.result shape → (ops : List Opd)
      → (f : Frame) (h : Heap) → Stood p r hd (context vs (typing s ops)) f h
      → MakesWell p u C shape x (trimmed (site_at r hd vs) f)
  makes_by C P shape b0 c e cons head shaped ops f h st = record {
    keeps = keeps_there p i n rows r hd vs s x path anch class.universe ops f h st;
    shapes = λ Q b new ib.
        (shape_at p laws (C ∷ Q) C c shape shaped (and_so st (λ z.
        let k = (known_of ops f h (C ∷ Q) new z).0 in
        and_so (sigs.method (C ∷ Q) (bound s x) C b0 c k.is_class k.super body head) (λ a. surely (k.is_class, a)))) b ib).shape;
  } where
    top : Headed C (x.names ++ (x.exact ++ anchor_at (bound_of s) x.anchor))
    top = headed C P x.names x.exact (anchor_at (bound_of s) x.anchor) e

    body : IsBody p (bound s x) C b0
    body = subst (λ (R : Path). IsBody p R C b0) (sym top.is)
        (subst (λ (R : Path). IsConstructorBody p R b0) top.is cons)

  -- where it has none, and the selector has no parameters
  pub makes_none : (C : Name) (P : Path) (shape : Shape) → x.names ++ x.exact ≡ C ∷ P
      → ((b : Body) → IsConstructorBody p (bound s x) b → ⊥) → length shape.params ≡ 0 → shape.result ≡ 0
      → (ops : List Opd) (f : Frame) (h : Heap) → Stood p r hd (context vs (typing s ops)) f h
      → MakesWell p u C shape x (trimmed (site_at r hd vs) f)
  makes_none C P shape e lacks long result ops f h st = record {
    keeps = keeps_there p i n rows r hd vs s x path anch class.universe ops f h st;
    shapes = λ Q b new ib.
        let c = header_there p laws (C ∷ Q) C b ib in
        (has_shape p laws b c.0 shape c.1
        (sure_nats shape.params (kinds_of c.0.vars) (and_so st (λ z.
        let k = (known_of ops f h (C ∷ Q) new z).0 in
        surely (no_kinds shape.params long ∙ ap (λ (xs : List Var). kinds_of xs)
        (sym (sigs.bare C Q top.rest b c.0 k.is_class (subst (Sup p (C ∷ Q)) top.is k.super)
        (λ d cd. lacks d (subst (λ (R : Path). IsConstructorBody p R d) (sym top.is) cd)) ib c.1))))))
        (sure_nat shape.result (result_kind c.0.result) (and_so st (λ z.
        let k = (known_of ops f h (C ∷ Q) new z).0 in
        surely (result ∙ ap result_kind (sym (sigs.void (C ∷ Q) b c.0 k.is_class ib c.1))))))).shape;
  } where
    top : Headed C (x.names ++ (x.exact ++ anchor_at (bound_of s) x.anchor))
    top = headed C P x.names x.exact (anchor_at (bound_of s) x.anchor) e

  -- where no class has such a constructor without parameters
  pub makes_bare : (C : Name) (P : Path) → x.names ++ x.exact ≡ C ∷ P
      → ((j : ℕ) (shape : Shape) → MethodOf n C j shape → length shape.params ≡ 0 → shape.result ≡ 0 → ⊥)
      → (ops : List Opd) (f : Frame) (h : Heap) → Stood p r hd (context vs (typing s ops)) f h
      → MakesBare p u x (trimmed (site_at r hd vs) f)
  makes_bare C P e none ops f h st = record {
    keeps = keeps_there p i n rows r hd vs s x path anch class.universe ops f h st;
    none = λ V b new cons long. st (λ z. no V b cons long (known_of ops f h V new z).0.is_class
        (subst (Headed C) (sym (known_of ops f h V new z).1)
        (headed C P x.names x.exact (anchor_at (view_at (frame_views (trimmed (site_at r hd vs) f))) x.anchor) e)));
  } where
    no : (V : Path) (b : Body) → IsConstructorBody p V b → length b.method.params ≡ 0 → IsClass p V → Headed C V → ⊥
    no V b cons long class top =
        let ib : IsBody p (C ∷ top.rest) C b = subst (λ (R : Path). IsConstructorBody p R b) top.is cons in
        let c = header_there p laws (C ∷ top.rest) C b ib in
        let shape : Shape = record { params = kinds_of c.0.vars; result = result_kind c.0.result } in
        let j = has_selector p i n rows (C ∷ top.rest) C b shape ib (has_shape p laws b c.0 shape c.1 refl refl).shape in
        none j.0 shape j.1
        (ap (λ (xs : List Var). length (kinds_of xs)) (no_vars c.0.vars (laws.param_count b c.0 c.1 ∙ long)))
        (ap result_kind (sigs.void (C ∷ top.rest) b c.0 (subst (IsClass p) top.is class) ib c.1))
