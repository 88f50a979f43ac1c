-- `super` as the rules type it, and what its act takes.
use Rattle.std.proofs.Common.{◌≡◌, ◌<◌, ℕ, List, [], ◌∷◌, length, Option, Some, None, Bool, true, false, ◌⊎◌, inl, inr, refl, sym, ap, ◌∙◌, subst, arith, eqb-true, Contains}
use Rattle.std.specs.Prelude.{Result, Ok, Err}
use Rattle.std.proofs.lemmas.List.{length-map}
use Rattle.jn_base.specs.declared.tree.Name.{Name}
use Rattle.jn_base.specs.declared.tree.Named.{Named}
use Rattle.jn_base.specs.declared.tree.Place.{Place}
use Rattle.jn_base.specs.declared.tree.Term.{Term}
use Rattle.jn_base.specs.declared.tree.TypeTerm.{TypeTerm}
use Rattle.jn_base.specs.declared.tree.Constraint.{Constraint}
use Rattle.jn_base.specs.declared.tree.Program.{Program}
use Rattle.jn_base.specs.declared.tree.Expr.{Expr}
use Rattle.jn_base.specs.declared.tree.Node.TheVariants as node
use Rattle.jn_base.specs.declared.refusal.Refusal.{Refusal}
use Rattle.jn_base.specs.declared.refusal.Rule.TheVariants as rule
use Rattle.jn_base.specs.declared.types.Anchor.TheVariants.{Up}
use Rattle.jn_base.specs.declared.types.Atom.{Atom as ShownAtom}
use Rattle.jn_base.specs.declared.types.Masks.{Masks}
use Rattle.jn_base.specs.declared.types.Ty.{Ty}
use Rattle.jn_base.specs.declared.types.Ty.TheVariants as ty
use Rattle.jn_base.specs.declared.names.Role.TheVariants as role
use Rattle.jn_base.specs.declared.names.Var.{Var}
use Rattle.jn_base.specs.Parts.{expr}
use Rattle.jn_base.specs.Paths.{Path}
use Rattle.jn_base.specs.Universe.{InUniverse}
use Rattle.jn_base.specs.Atoms.{Atom, atom, atom_of, shown_atom, atoms_in, Among, first, later}
use Rattle.jn_base.specs.Scopes.{Scope, bound, Binds}
use Rattle.jn_base.specs.Fits.{Anchored, TypeFits, BindsFit}
use Rattle.jn_base.specs.Resolve.{Resolve}
use Rattle.jn_base.proofs.Reaching.{declared_in_universe}
use Rattle.jn_base.proofs.NameTests.{in_cons, in_none}
use Rattle.jn_sem.specs.Acts.{Super}
use Rattle.jn_sem.specs.Below.{Below}
use Rattle.jn_sem.specs.LawsOfSlots.{HeadNamed}
use Rattle.jn_sem.specs.NormalFunction.{normal_type}
use Rattle.jn_sem.specs.Sharing.{IsClass}
use Rattle.jn_sem.specs.Terms.{Site, spot_at, vars_at, TermIs, SuperBound}
use Rattle.jn_sem.specs.Does.{Body, IsBody}
use Rattle.jn_sem.proofs.Growth.{below_later}
use Rattle.jn_laws.specs.LawsOfFits.{AsDeep}
use Rattle.jn_laws.specs.LawsOfWritten.{HeaderPath, HeaderPaths, scope_of}
use Rattle.jn_laws.proofs.Bounded.{members_in_universe}
use Rattle.jn_laws.proofs.MovedTypes.{below_keeps_depth}
use Rattle.jn_laws.proofs.Terms.{this}
use Rattle.jn_laws.proofs.WrittenTypes.{written_types}
use Rattle.jn_rules.specs.Plans.{OfTerm, OfBody, Pledge, Plan, target_type, then_do, wants, taken}
use Rattle.jn_rules.specs.Questions.{Answers, Gives, Means, ConstraintGives, header_site}
use Rattle.jn_rules.specs.Headers.{Header, header_typed}
use Rattle.jn_rules.specs.Exprs.{Here, site_here, Typed, Passed, plain, path_type, put_in, replaced_paths, as_many, call_typed, result_gives, of_name, of_atom, header_grants, constraints_granted, super_with, super_gives, super_typed, expr_types}
use Rattle.jn_rules.specs.Forms.{typed_args, typed_expr}
use Rattle.jn_rules.specs.Stmts.{In, is_void}
use Rattle.jn_rules.proofs.FormLaws.{forms_are}
use Rattle.jn_rules.proofs.PlanLaws.{then_came, wanted, took, found_was}
use Rattle.jn_rule_laws.specs.LawsOfHeaders.{IsHeader}
use Rattle.jn_rule_laws.proofs.HeaderLaws.{headers_are_the_meanings, grants_of}
use Rattle.jn_rule_laws.specs.LawsOfForms.{Grown, none as none_grown, more as more_grown, TypeKnown, PutFor, header_scope, CallsOf}
use Rattle.jn_rule_laws.specs.LawsOfOneHeader.{HeaderFits}
use Rattle.jn_rule_laws.proofs.CallTypes.{call_types_fit}
use Rattle.jn_rule_laws.proofs.KnownTypes.{of_path_known, path_known, normal_known, normal_depth_is}
use Rattle.jn_rule_laws.proofs.OneHeaders.{headers_fit}
use Rattle.jn_sound.specs.KnownScopes.{here_in, ScopeKnown}
use Rattle.jn_sound.specs.Callees.{Callee, IsCallee}
use Rattle.jn_sound.specs.Takes.{Opd, typing, Takes, ArgsFit, SuperTerm, SuperGranted, with_result, super}
use Rattle.jn_sound.specs.Tree.{Fresher, ProgramKnown}
use Rattle.jn_sound.proofs.Scopes.{grown_of, atom_grown, deep_grown, mentioned_there, fits_grown}
use Rattle.jn_sound.proofs.Settled.{normal_settled}
use Rattle.jn_sound.proofs.RuledForms.{gave, not_ok}
use Rattle.jn_sound.proofs.Parts.{plain_type}
use Rattle.jn_sound.proofs.News.{bound_for}
use Rattle.jn_sound.proofs.Stores.{masks_fresh}
use Rattle.jn_place_laws.proofs.Going.{onto}
use Rattle.jn_place_laws.proofs.Operands.{taken_all}

-- ---- what the own header grants

module _ (p : Program) (h : Here) (b : Body) (m : Named) (s : Scope) where
  record AllGranted (ks : List Constraint) (go : Plan Typed) (t : Typed) : Type 0 where
    each : (k : Constraint) → Contains ks k → SuperGranted p h s b k
    then : Gives p go (Ok t)

  one_more : (k : Constraint) (ks : List Constraint) (go : Plan Typed) (t : Typed) → SuperGranted p h s b k
      → AllGranted ks go t → AllGranted (k ∷ ks) go t
  one_more k ks go t g r = record { each = λ l c. at l (in_cons k ks l c); then = r.then } where
    at : (l : Constraint) → (k ≡ l) ⊎ Contains ks l → SuperGranted p h s b l
    at l (inl e) = subst (SuperGranted p h s b) e g
    at l (inr c) = r.each l c

  all_granted : (ks : List Constraint) (go : Plan Typed) (t : Typed) → Gives p (constraints_granted h b m s ks go) (Ok t)
      → AllGranted ks go t
  all_granted [] go t g = record { each = λ k c. absurd (in_none k c); then = g }
  all_granted (k ∷ ks) go t g = at g.0 g.1 g.2 (all_granted ks go t) where
    at : (o : Result Pledge Refusal) → ConstraintGives p (header_site b.class b.method.name.name) k o
        → Gives p (taken (λ x.
        then_do (header_grants h s (normal_type s (target_type x.from)) x.to) (λ ok.
        wants ok (of_name rule.E25 h m.at m.name) (constraints_granted h b m s ks go))) o) (Ok t)
        → (Gives p (constraints_granted h b m s ks go) (Ok t) → AllGranted ks go t) → AllGranted (k ∷ ks) go t
    at (Err r) i e again = absurd (not_ok t r e)
    at (Ok x) i e again =
        let d = then_came (header_grants h s (normal_type s (target_type x.from)) x.to)
        (λ ok. wants ok (of_name rule.E25 h m.at m.name) (constraints_granted h b m s ks go)) t e in
        let w = wanted d.first (of_name rule.E25 h m.at m.name) (constraints_granted h b m s ks go) t d.then in
        one_more k ks go t (record {
          pledge = x;
          is = i;
          granted = (grants_of p h s (normal_type s (target_type x.from)) x.to).granted
              (subst (λ (z : Bool). Gives p (header_grants h s (normal_type s (target_type x.from)) x.to) (Ok z))
              w.test d.gave);
        }) (again w.then)

-- ---- below stays so where the scope grows

below_grown : {p : Program} {s t : Scope} {u w : Ty} → Grown s t → BindsFit t → TypeFits s u → Below p s u w
    → Below p t u w
below_grown none_grown f k l = l
below_grown (more_grown g) f k l = (below_later f (fits_grown g f.0 k)).0 (below_grown g f.0 k l)

-- the type of `this` is the same with fresh paths
this_fresh : {s t : Scope} → Fresher s t → path_type t 0 ≡ path_type s 0
this_fresh g = ap (λ (m : Masks). ty.Class (shown_atom (atom (Up 0 0) [] []) ∷ []) m) (masks_fresh 0 g (omega arith))

-- a path of the universe has a name
universe_long : (p : Program) (B : Path) → InUniverse p B → 0 < length B
universe_long p [] u = absurd u
universe_long p (C ∷ P) u = omega arith

of_atom_paths : (vs : List Var) (a : ShownAtom) → ((q k : ℕ) → (atom_of a).anchor ≡ Up q k → HeaderPath vs q)
    → HeaderPaths vs (of_atom a)
of_atom_paths vs a g _ q k first e = g q k e
of_atom_paths vs a g y q k (later m) e = elim m [ ]

-- `super` with these arguments, typed as y
pub record SuperTyped (p : Program) (h : Here) (s : Scope) (u : Term) (m : Named) (es : List Expr) (y : Typed) : Type 0 where
  pub a : ShownAtom
  pub resolved : Resolve p (spot_at (site_here h) role.Super) (vars_at (site_here h)) u (Ok a)
  pub below : Below p s (path_type s 0) (normal_type s (of_atom a))
  pub body : Body
  pub is_body : IsBody p (bound s (atom_of a)) m.name body
  pub header : Header
  pub is_header : IsHeader p body header
  pub long : length header.vars ≡ length es
  pub passed : Passed
  pub args : Gives p (call_typed h header (typed_args h es) (record { path = 0; scope = s })) (Ok passed)
  pub granted : (k : Constraint) → Contains body.method.sharing k → SuperGranted p h passed.scope body k
  pub is : y ≡ plain (put_in passed.scope (replaced_paths header.vars) passed.paths header.result) passed.scope

tested : (T : Type 0) (ok : Bool) → ok ≡ true → Answers T ok → T
tested T true e a = a
tested T false e a = cc

pub super_is_typed : (p : Program) (h : Here) (at : Place) (s : Scope) (u : Term) (m : Named) (es : List Expr) (y : Typed)
    → Gives p (expr_types h (expr at (node.Super u m es)) s) (Ok y) → SuperTyped p h s u m es y
super_is_typed p h at s u m es y g =
    let a = subst (λ (z : Plan Typed). Gives p z (Ok y)) ((forms_are.exprs h at s).super u m es) g in
    let r = took a.0 (super_typed h u m (typed_args h es) s) y a.2 in
    let w = wanted r.then.0 _ _ y r.then.2 in
    let c0 = found_was w.then.0 _ (super_gives h m (typed_args h es) s) y w.then.2 in
    let d = then_came (header_typed c0.given) (super_with h m (typed_args h es) s c0.given) y c0.then in
    let v = wanted (as_many d.first (typed_args h es)) _ _ y d.then in
    let e = then_came (call_typed h d.first (typed_args h es) (record { path = 0; scope = s }))
    (λ z. constraints_granted h c0.given m z.scope c0.given.method.sharing (result_gives d.first z)) y v.then in
    let all = all_granted p h c0.given m e.first.scope c0.given.method.sharing (result_gives d.first e.first) y e.then in
    record {
      a = r.given;
      resolved = subst (λ z. Means p (OfTerm role.Super (site_here h) u) z) r.is a.1;
      below = tested (Below p s (path_type s 0) (normal_type s (of_atom r.given))) r.then.0 w.test r.then.1;
      body = c0.given;
      is_body = subst (λ (o : Option Body). Means p (OfBody (bound s (atom_of r.given)) m.name) o) c0.is w.then.1;
      header = d.first;
      is_header = (headers_are_the_meanings p c0.given d.first).0 d.gave;
      long = eqb-true (length d.first.vars) (length (typed_args h es)) v.test ∙ length-map es (typed_expr h);
      passed = e.first;
      args = e.gave;
      granted = all.each;
      is = gave p _ y all.then;
    }

module _ (p : Program) (b : In) (vs : List Var) (its : ProgramKnown p) where
  abbrev h : Here
  h = here_in b vs

  abbrev site : Site
  site = site_here (here_in b vs)

  own_type : (s : Scope) → ScopeKnown p (here_in b vs) s → TypeKnown s (path_type s 0)
  own_type s k = let a = mentioned_there p (here_in b vs) s 0 k (this refl) in path_known s 0 k.scope.binds a.0 a.1

  -- a class that has a method is one
  class_there : (B : Path) (m : Name) (c : Body) → IsBody p B m c → IsClass p B
  class_there B m c i = record {
    universe = (members_in_universe p).methods B m (c.class, i.least.among);
    kind = record {
      at = c.class;
      super = i.least.among.super;
      decl = i.at.decl;
      stands = i.at.stands;
      is = its.bodies.in_class c.class m c.method i.at;
    };
  }

  -- the type of the one atom
  atom_known : (s : Scope) (a : ShownAtom) → Anchored s (atom_of a).anchor → InUniverse p (bound s (atom_of a))
      → TypeKnown s (of_atom a)
  atom_known s a i u = record {
    fits = record {
      atoms = λ c. record {
        one = atom_of a;
        among = first;
        anchored = λ x m. subst (λ (z : Atom). Anchored s z.anchor) (sym (only x m)) i;
        depth = λ x m. ap (λ (z : Atom). length (bound s z)) (only x m);
        shallow = its.shallow (bound s (atom_of a)) u;
      };
    };
    named = λ x m. subst (λ (z : Atom). 0 < length (bound s z)) (sym (only x m)) (universe_long p (bound s (atom_of a)) u);
  } where
    only : (x : Atom) → Among (atoms_in (of_atom a)) x → x ≡ atom_of a
    only _ first = refl
    only x (later m) = elim m [ ]

  module _ (s : Scope) (k : ScopeKnown p (here_in b vs) s) (u : Term) (m : Named) (es : List Expr) (y : Typed)
      (head : HeadNamed u.head) (w : SuperTyped p (here_in b vs) s u m es y) where
    is : TermIs p role.Super (site_here (here_in b vs)) u (atom_of w.a)
    is = (w.a, w.resolved, refl)

    here : Anchored s (atom_of w.a).anchor × (bound s (atom_of w.a) ≡ bound (scope_of (site_here (here_in b vs))) (atom_of w.a))
    here = bound_for k.scope (atom_of w.a)
        ((written_types p its.shallow).of_term role.Super site u (atom_of w.a) k.site head is)

    pub class : IsClass p (bound s (atom_of w.a))
    class = class_there (bound s (atom_of w.a)) m.name w.body w.is_body

    -- the class in which the body is looked up
    pub bound_is : SuperBound p (site_here (here_in b vs)) u (bound s (atom_of w.a))
    bound_is = record { given = w.a; resolved = w.resolved; is = here.1 }

    abbrev pub callee : Callee
    callee = record { bound = bound s (atom_of w.a); body = w.body; vars = w.header.vars; result = w.header.result }

    pub is_callee : IsCallee p m.name callee
    is_callee = record { body = w.is_body; header = w.is_header }

    known : TypeKnown s (of_atom w.a)
    known = atom_known s w.a here.0 class.universe

    pub this_in : Binds s 0
    this_in = (mentioned_there p (here_in b vs) s 0 k (this refl)).0

    pub heads : HeaderFits p w.body w.header
    heads = headers_fit p w.body.class m.name w.body.method w.header its.shallow its.well
        (declared_in_universe p w.body.class w.is_body.at.decl w.is_body.at.stands) w.is_body.at w.is_header

    pub calls : CallsOf p w.body w.header
    calls = call_types_fit p w.body w.header heads

    -- `this` is as deep as the bound of the term
    pub deep : AsDeep (header_scope w.body w.header) s 0 0
    deep =
        let own = own_type s k in
        let x = own.fits.atoms tt in
        let z = (normal_known s (of_atom w.a) k.scope.binds known).fits.atoms tt in
        calls.at_bound s m.name (atom_of w.a) 0 w.is_body this_in
        ((of_path_known s 0 this_in).depth x.one x.among
        ∙ sym (below_keeps_depth p s (path_type s 0) (normal_type s (of_atom w.a)) x.one z.one k.scope.binds own.fits
        w.below x.among z.among)
        ∙ normal_depth_is s (of_atom w.a) (atom_of w.a) z.one k.scope.binds known first z.among)

    -- with its arguments
    module _ (args : List Opd) (all : List ℕ) (grown : Fresher s w.passed.scope)
        (there : ScopeKnown p (here_in b vs) w.passed.scope)
        (put : PutFor (header_scope w.body w.header) w.passed.scope w.header.vars all) where
      abbrev result : Ty
      result = put_in w.passed.scope (replaced_paths w.header.vars) (0 ∷ all) w.header.result

      term : SuperTerm p b vs w.passed.scope u w.a (bound s (atom_of w.a))
      term = record {
        is = bound_is;
        at = sym (atom_grown (grown_of grown) there.scope.binds (atom_of w.a) here.0).1;
        class = class;
        paths = of_atom_paths vs w.a (λ q j e. (written_types p its.shallow).term_path role.Super site u (atom_of w.a) q j
            is e);
        below = subst (λ (z : Ty). Below p w.passed.scope z (normal_type w.passed.scope (of_atom w.a)))
            (sym (this_fresh grown))
            (subst (Below p w.passed.scope (path_type s 0)) (sym (normal_settled s w.passed.scope (of_atom w.a)
            (grown_of grown) there.scope.binds known.fits))
            (below_grown (grown_of grown) there.scope.binds (own_type s k).fits w.below));
      }

      type_by : (o : Option TypeTerm) → w.body.method.result ≡ o → TypeKnown w.passed.scope
          (put_in w.passed.scope (replaced_paths w.header.vars) (0 ∷ all) w.header.result)
      type_by (Some t) e = calls.result t w.passed.scope 0 all e there.scope.binds
          (deep_grown (grown_of grown) there.scope.binds deep) put
      type_by None e =
          subst (λ (z : Ty). TypeKnown w.passed.scope (put_in w.passed.scope (replaced_paths w.header.vars) (0 ∷ all) z))
          (sym (heads.void e)) (plain_type w.passed.scope ty.Void refl)

      pub type : TypeKnown w.passed.scope
          (put_in w.passed.scope (replaced_paths w.header.vars) (0 ∷ all) w.header.result)
      type = type_by w.body.method.result refl

      pub super_takes : (keeps : Bool) (ops : List Opd) → length args ≡ length es
          → ArgsFit w.passed.scope (replaced_paths w.header.vars) (0 ∷ all) w.header.vars args all
          → (is_void w.header.result ≡ true → keeps ≡ false)
          → Takes p b vs (Super u m.name (length es) keeps) (typing w.passed.scope (onto args ops)) vs
          (typing w.passed.scope (with_result keeps
          (put_in w.passed.scope (replaced_paths w.header.vars) (0 ∷ all) w.header.result) ops))
      super_takes keeps ops count fit void =
          super u m.name (length es) keeps all args callee w.a term is_callee w.granted
          (taken_all args ops (length es) count) fit void type.fits
