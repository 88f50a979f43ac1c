-- The rules' typing turned round, as far as kinds need it: which body is called, and of which type the value is.
use Rattle.std.proofs.Common.{◌≡◌, List, [], ◌∷◌, length, Option, Some, None, Bool, true, false, sym, ap, ◌∙◌, subst, eqb-true}
use Rattle.std.specs.Prelude.{cond, nat_eq, Result, Ok, Err}
use Rattle.std.proofs.lemmas.List.{length-map}
use Rattle.jn_base.specs.declared.tree.Name.{Name}
use Rattle.jn_base.specs.declared.tree.Named.{Named}
use Rattle.jn_base.specs.declared.tree.Place.{Place}
use Rattle.jn_base.specs.declared.tree.Term.{Term}
use Rattle.jn_base.specs.declared.tree.ViewTerm.{ViewTerm}
use Rattle.jn_base.specs.declared.tree.Constraint.{Constraint}
use Rattle.jn_base.specs.declared.tree.Program.{Program}
use Rattle.jn_base.specs.declared.tree.Expr.{Expr}
use Rattle.jn_base.specs.declared.tree.Node.TheVariants as node
use Rattle.jn_base.specs.declared.refusal.Refusal.{Refusal}
use Rattle.jn_base.specs.declared.refusal.Rule.TheVariants as rule
use Rattle.jn_base.specs.declared.types.Anchor.{Anchor}
use Rattle.jn_base.specs.declared.types.Anchor.TheVariants.{Root, Up}
use Rattle.jn_base.specs.declared.types.Atom.{Atom as ShownAtom}
use Rattle.jn_base.specs.declared.types.ValKind.{ValKind}
use Rattle.jn_base.specs.declared.names.Role.TheVariants as role
use Rattle.jn_base.specs.Parts.{expr}
use Rattle.jn_base.specs.Atoms.{Atom, atom_of}
use Rattle.jn_base.specs.Scopes.{Scope, bound}
use Rattle.jn_base.specs.Resolve.{is_class, Resolve}
use Rattle.jn_base.proofs.ResolveOnce.{term_once}
use Rattle.jn_sem.specs.NormalFunction.{normal_type}
use Rattle.jn_sem.specs.Terms.{spot_at, vars_at, TermIs}
use Rattle.jn_sem.specs.Does.{Body, IsBody, IsConstructorBody}
use Rattle.jn_rules.specs.Plans.{FoundField, OfBody, OfField, OfMethod, OfTerm, Pledge, target_type, MemberMark, Plan, Target, Sharing, Holding, Refuted, done, refuse, note, taken, then_do, wants}
use Rattle.jn_rules.specs.Questions.{IsFoundField, IsMethodOf, Means, Finds, Gives}
use Rattle.jn_rules.specs.Headers.{Header, header_typed}
use Rattle.jn_rules.specs.Exprs.{Here, site_here, Typed, Typing, Passed, plain, path_of, note_kind, kind_of, gives, put_in, replaced_paths, as_many, call_typed, result_gives, of_class, first_bound, suffix_typed, field_gives, field_type, method_gives, method_with, unmasked, is_object, is_null_type, made_exact, fresh_with, of_new, new_typed, made_with, made_by, header_grants, by_sharing, shared_or, viewed_as, view_typed, constraints_granted, super_with, super_gives, super_typed, of_name, args_typed, expr_types}
use Rattle.jn_rules.specs.Forms.{typed_args, typed_expr}
use Rattle.jn_rules.proofs.FormLaws.{forms_are}
use Rattle.jn_rules.proofs.PlanLaws.{then_came, wanted, took, found_was}

pub same_typed : (y x : Typed) → (let a : Result Typed Refusal = Ok y in let b : Result Typed Refusal = Ok x in a ≡
    b) → y ≡ x
same_typed y x e = cc

not_typed : (y : Typed) (r : Refusal)
    → (let a : Result Typed Refusal = Ok y in let b : Result Typed Refusal = Err r in a ≡ b) → ⊥
not_typed y r e = cc

-- what a form gives is what is answered
pub gave : (p : Program) (x y : Typed) → Gives p (gives x) (Ok y) → y ≡ x
gave p x y g = at (kind_of x.ty) g where
  at : (o : Option ValKind) → Gives p (note_kind o (done x)) (Ok y) → y ≡ x
  at None e = same_typed y x e
  at (Some k) e = same_typed y x e

module _ (p : Program) (h : Here) where
  pub asked : (e : Expr) (s : Scope) (y : Typed) (x : Plan Typed) → expr_types h e s ≡ x
      → Gives p (expr_types h e s) (Ok y) → Gives p x (Ok y)
  asked e s y x is g = subst (λ (z : Plan Typed). Gives p z (Ok y)) is g

  -- ---- a field

  pub record Found (f : Named) (x y : Typed) : Type 0 where
    pub class : is_class x.ty ≡ true
    pub c : FoundField
    pub here : IsFoundField p x.scope x.ty f.name c
    pub is : y ≡ plain (field_type c (path_of x.ty x)) (path_of x.ty x).scope

  pub field_found : (f : Named) (at : Place) (x y : Typed) → Gives p (suffix_typed h f None at x) (Ok y) → Found f x y
  field_found f at x y g =
      let w = wanted (is_class x.ty) _ _ y g in
      let c = found_was w.then.0 _ (field_gives f x) y w.then.2 in
      record {
        class = w.test;
        c = c.given;
        here = subst (λ (o : Option FoundField). Means p (OfField x.scope x.ty f.name) o) c.is w.then.1;
        is = read c.given c.then.0 c.then.2;
      }
    where
      read : (c : FoundField) (m : Bool) → Gives p (cond m (refuse (of_class rule.E19 (first_bound x) f f.name))
          (note (MemberMark c.class) (gives (plain (field_type c (path_of x.ty x)) (path_of x.ty x).scope)))) (Ok y)
          → y ≡ plain (field_type c (path_of x.ty x)) (path_of x.ty x).scope
      read c true e = absurd (not_typed y _ e)
      read c false e = gave p _ y e

  -- ---- a call

  pub record Called (f : Named) (es : List (Expr × Typing)) (x y : Typed) : Type 0 where
    pub class : is_class x.ty ≡ true
    pub body : Body
    pub header : Header
    pub here : IsMethodOf p x.scope x.ty f.name body
    pub head : Gives p (header_typed body) (Ok header)
    pub many : length header.vars ≡ length es
    pub passed : Passed
    pub args : Gives p (call_typed h header es (path_of x.ty x)) (Ok passed)
    pub is : y ≡ plain (put_in passed.scope (replaced_paths header.vars) passed.paths header.result) passed.scope

  pub call_found : (f : Named) (es : List (Expr × Typing)) (at : Place) (x y : Typed)
      → Gives p (suffix_typed h f (Some es) at x) (Ok y) → Called f es x y
  call_found f es at x y g =
      let w = wanted (is_class x.ty) _ _ y g in
      let c = found_was w.then.0 _ (method_gives h f es x) y w.then.2 in
      let u = none_was (then_do (header_typed c.given) (method_with h f es x c.given)) c.then.0 c.then.2 in
      let hd = then_came (header_typed c.given) (method_with h f es x c.given) y u in
      let m = wanted (as_many hd.first es) _ _ y hd.then in
      let came = then_came (call_typed h hd.first es (path_of x.ty x)) (result_gives hd.first) y m.then in
      record {
        class = w.test;
        body = c.given;
        header = hd.first;
        here = subst (λ (o : Option Body). Means p (OfMethod x.scope x.ty f.name) o) c.is w.then.1;
        head = hd.gave;
        many = eqb-true (length hd.first.vars) (length es) m.test;
        passed = came.first;
        args = came.gave;
        is = gave p _ y came.then;
      }
    where
      none_was : (go : Plan Typed) (o : Option Name) → Gives p (unmasked x f go o) (Ok y) → Gives p go (Ok y)
      none_was go None e = e
      none_was go (Some z) e = absurd (not_typed y _ e)

  -- ---- `new`

  pub data NewFound (s : Scope) (x : Atom) (es : List Expr) (y : Typed) : Type 0 where
    bare : ((c : Body) → IsConstructorBody p (bound s x) c → ⊥) → is_class y.ty ≡ true
        → y.scope ≡ (fresh_with (normal_type s (made_exact x)) s).scope → NewFound s x es y
    by : (b : Body) (c : Header) (passed : Passed) → IsConstructorBody p (bound s x) b
        → Gives p (header_typed b) (Ok c) → length c.vars ≡ length es
        → Gives p (call_typed h c (typed_args h es) (fresh_with (normal_type s (made_exact x)) s)) (Ok passed)
        → is_class y.ty ≡ true → y.scope ≡ passed.scope → NewFound s x es y

  same_atom : (x y : ShownAtom)
      → (let a : Result ShownAtom Refusal = Ok x in let b : Result ShownAtom Refusal = Ok y in a ≡ b) → x ≡ y
  same_atom x y e = cc

  pub new_found : (at : Place) (s : Scope) (u : Term) (x : Atom) (es : List Expr) (y : Typed)
      → TermIs p role.New (site_here h) u x → Gives p (expr_types h (expr at (node.New u es)) s) (Ok y)
      → NewFound s x es y
  new_found at s u x es y is g =
      let a = subst (λ (z : Plan Typed). Gives p z (Ok y)) ((forms_are.exprs h at s).new u es) g in
      let r = took a.0 (new_typed h at (typed_args h es) s) y a.2 in
      let e : r.given ≡ is.0 = same_atom r.given is.0
      (term_once p (spot_at (site_here h) role.New) (vars_at (site_here h)) u (Ok r.given) (Ok is.0)
      (subst (λ z. Means p (OfTerm role.New (site_here h) u) z) r.is a.1) is.1) in
      subst (λ (z : Atom). NewFound s z es y) (ap atom_of e ∙ sym is.2)
      (with_body (atom_of r.given) r.then.0 r.then.1 r.then.2) where
        class : (z : Atom) (q : Scope) → y ≡ of_new (normal_type s (made_exact z)) (fresh_with (normal_type s
            (made_exact z)) s) q
            → is_class y.ty ≡ true
        class z q e = ap (λ (v : Typed). is_class v.ty) e

        scope : (z : Atom) (q : Scope) → y ≡ of_new (normal_type s (made_exact z)) (fresh_with (normal_type s
            (made_exact z)) s) q
            → y.scope ≡ q
        scope z q e = ap (λ (v : Typed). v.scope) e

        with_body : (z : Atom) (o : Option Body) → Finds (IsConstructorBody p (bound s z)) o
            → Gives p (made_with h at (typed_args h es) s (normal_type s (made_exact z)) o) (Ok y) → NewFound s z es y
        with_body z None lacks g =
            let w = wanted (nat_eq (length (typed_args h es)) 0) _ _ y g in
            bare lacks (class z _ (gave p _ y w.then)) (scope z _ (gave p _ y w.then))
        with_body z (Some c0) cons g =
            let d = then_came (header_typed c0) (made_by h at (typed_args h es) s (normal_type s
            (made_exact z)) c0) y g in
            let w = wanted (as_many d.first (typed_args h es)) _ _ y d.then in
            let c = then_came (call_typed h d.first (typed_args h es) (fresh_with (normal_type s (made_exact z)) s))
            (λ v. gives (of_new (normal_type s (made_exact z)) (fresh_with (normal_type s (made_exact z)) s) v.scope)) y
            w.then in
            by c0 d.first c.first cons d.gave
            (eqb-true (length d.first.vars) (length (typed_args h es)) w.test ∙ length-map es (typed_expr h)) c.gave
            (class z c.first.scope (gave p _ y c.then)) (scope z c.first.scope (gave p _ y c.then))

  -- ---- a view

  -- a class type, in the scope of what is seen so
  abbrev SeenAs : Typed → Typed → Type 0
  SeenAs y x = (is_class y.ty ≡ true) × (y.scope ≡ x.scope)

  pub record ViewFound (e : Expr) (s : Scope) (y : Typed) : Type 0 where
    pub first : Typed
    pub had : Gives p (expr_types h e s) (Ok first)
    pub object : is_object first.ty ≡ true
    pub class : is_class y.ty ≡ true
    pub scope : y.scope ≡ first.scope

  pub view_found : (at : Place) (v : ViewTerm) (e : Expr) (s : Scope) (y : Typed)
      → Gives p (expr_types h (expr at (node.View v e)) s) (Ok y) → ViewFound e s y
  view_found at v e s y g =
      let a = subst (λ (z : Plan Typed). Gives p z (Ok y)) ((forms_are.exprs h at s).view v e) g in
      let r = took a.0 (view_typed h at (typed_expr h e) s) y a.2 in
      let c = then_came (expr_types h e s) _ y r.then in
      let w = wanted (is_object c.first.ty) _ _ y c.then in
      record {
        first = c.first;
        had = c.gave;
        object = w.test;
        class = (seen r.given c.first (is_null_type c.first.ty) w.then).0;
        scope = (seen r.given c.first (is_null_type c.first.ty) w.then).1;
      }
    where
      is_so : (u : Target) (x : Typed) → Gives p (gives (viewed_as u x.scope)) (Ok y) → SeenAs y x
      is_so u x g =
          let e = gave p (viewed_as u x.scope) y g in
          (ap (λ (v : Typed). is_class v.ty) e, ap (λ (v : Typed). v.scope) e)

      shared : (u : Target) (x : Typed) (o : Sharing) → Gives p (shared_or at (viewed_as u x.scope) o) (Ok y)
          → SeenAs y x
      shared u x Holding g = is_so u x g
      shared u x (Refuted U f) g = absurd (not_typed y _ g)

      by_share : (u : Target) (x : Typed) (k : Anchor)
          → Gives p (by_sharing at x.scope x.ty u (viewed_as u x.scope) k) (Ok y) → SeenAs y x
      by_share u x Root g = shared u x g.0 g.2
      by_share u x (Up q k) g = absurd (not_typed y _ g)

      granted : (u : Target) (x : Typed) (ok : Bool) → Gives p (cond ok (gives (viewed_as u x.scope))
          (by_sharing at x.scope x.ty u (viewed_as u x.scope) u.atom.anchor)) (Ok y) → SeenAs y x
      granted u x true g = is_so u x g
      granted u x false g = by_share u x u.atom.anchor g

      seen : (u : Target) (x : Typed) (null : Bool) → Gives p (cond null (gives (viewed_as u x.scope))
          (then_do (header_grants h x.scope x.ty u) (λ ok. cond ok (gives (viewed_as u x.scope))
          (by_sharing at x.scope x.ty u (viewed_as u x.scope) u.atom.anchor)))) (Ok y) → SeenAs y x
      seen u x true g = is_so u x g
      seen u x false g =
          let d = then_came (header_grants h x.scope x.ty u) _ y g in
          granted u x d.first d.then

  -- ---- `super`

  -- what is asked of the constraints of the called body gives nothing to the value
  behind_granted : (b : Body) (m : Named) (s : Scope) (ks : List Constraint) (go : Plan Typed) (y : Typed)
      → Gives p (constraints_granted h b m s ks go) (Ok y) → Gives p go (Ok y)
  behind_granted b m s [] go y g = g
  behind_granted b m s (k ∷ ks) go y g = at g.0 g.2 (behind_granted b m s ks go y) where
    at : (o : Result Pledge Refusal) → Gives p (taken (λ x.
        then_do (header_grants h s (normal_type s (target_type x.from)) x.to) (λ ok.
        wants ok (of_name rule.E25 h m.at m.name) (constraints_granted h b m s ks go))) o) (Ok y)
        → (Gives p (constraints_granted h b m s ks go) (Ok y) → Gives p go (Ok y)) → Gives p go (Ok y)
    at (Err r) e again = absurd (not_typed y r e)
    at (Ok x) e again =
        let d = then_came (header_grants h s (normal_type s (target_type x.from)) x.to)
        (λ ok. wants ok (of_name rule.E25 h m.at m.name) (constraints_granted h b m s ks go)) y e in
        let w = wanted d.first (of_name rule.E25 h m.at m.name) (constraints_granted h b m s ks go) y d.then in
        again w.then

  pub record SuperFound (s : Scope) (u : Term) (m : Named) (es : List Expr) (y : Typed) : Type 0 where
    pub a : ShownAtom
    pub resolved : Resolve p (spot_at (site_here h) role.Super) (vars_at (site_here h)) u (Ok a)
    pub body : Body
    pub is_body : IsBody p (bound s (atom_of a)) m.name body
    pub header : Header
    pub head : Gives p (header_typed body) (Ok header)
    pub long : length header.vars ≡ length es
    pub passed : Passed
    pub args : Gives p (args_typed h (replaced_paths header.vars) header.vars (typed_args h es) (0 ∷ []) s) (Ok passed)
    pub is : y ≡ plain (put_in passed.scope (replaced_paths header.vars) passed.paths header.result) passed.scope

  pub super_found : (at : Place) (s : Scope) (u : Term) (m : Named) (es : List Expr) (y : Typed)
      → Gives p (expr_types h (expr at (node.Super u m es)) s) (Ok y) → SuperFound s u m es y
  super_found at s u m es y g =
      let a = subst (λ (z : Plan Typed). Gives p z (Ok y)) ((forms_are.exprs h at s).super u m es) g in
      let r = took a.0 (super_typed h u m (typed_args h es) s) y a.2 in
      let w = wanted r.then.0 _ _ y r.then.2 in
      let c0 = found_was w.then.0 _ (super_gives h m (typed_args h es) s) y w.then.2 in
      let d = then_came (header_typed c0.given) (super_with h m (typed_args h es) s c0.given) y c0.then in
      let v = wanted (as_many d.first (typed_args h es)) _ _ y d.then in
      let e = then_came (call_typed h d.first (typed_args h es) (record { path = 0; scope = s }))
      (λ z. constraints_granted h c0.given m z.scope c0.given.method.sharing (result_gives d.first z)) y v.then in
      record {
        a = r.given;
        resolved = subst (λ z. Means p (OfTerm role.Super (site_here h) u) z) r.is a.1;
        body = c0.given;
        is_body = subst (λ (o : Option Body). Means p (OfBody (bound s (atom_of r.given)) m.name) o) c0.is w.then.1;
        header = d.first;
        head = d.gave;
        long = eqb-true (length d.first.vars) (length (typed_args h es)) v.test ∙ length-map es (typed_expr h);
        passed = e.first;
        args = e.gave;
        is = gave p _ y (behind_granted c0.given m e.first.scope c0.given.method.sharing
            (result_gives d.first e.first) y
            e.then);
      }
