-- `new` as the rules type it, and what its act takes.
use Rattle.std.proofs.Common.{◌≡◌, ℕ, List, [], ◌∷◌, length, Option, Some, None, Bool, ◌⊎◌, inl, inr, refl, sym, ap, ◌∙◌, subst, arith, eqb-true}
use Rattle.std.specs.Prelude.{cond, nat_eq, Result, Ok}
use Rattle.std.proofs.lemmas.List.{length-map}
use Rattle.jn_base.specs.declared.tree.Place.{Place}
use Rattle.jn_base.specs.declared.tree.Term.{Term}
use Rattle.jn_base.specs.declared.tree.Kind.TheVariants as kind
use Rattle.jn_base.specs.declared.tree.Program.{Program}
use Rattle.jn_base.specs.declared.tree.Expr.{Expr}
use Rattle.jn_base.specs.declared.tree.Node.TheVariants as node
use Rattle.jn_base.specs.declared.refusal.Refusal.{Refusal}
use Rattle.jn_base.specs.declared.types.Anchor.TheVariants.{Up}
use Rattle.jn_base.specs.declared.types.Atom.{Atom as ShownAtom}
use Rattle.jn_base.specs.declared.types.Ty.{Ty}
use Rattle.jn_base.specs.declared.names.Role.TheVariants as role
use Rattle.jn_base.specs.declared.names.Var.{Var}
use Rattle.jn_base.specs.Parts.{expr}
use Rattle.jn_base.specs.Paths.{Path}
use Rattle.jn_base.specs.Universe.{InUniverse}
use Rattle.jn_base.specs.Members.{HasKind}
use Rattle.jn_base.specs.Atoms.{Atom, atom_of, atoms_in, Among, first, later}
use Rattle.jn_base.specs.Scopes.{Scope, bound, Binds}
use Rattle.jn_base.specs.Fits.{Anchored, TypeFits}
use Rattle.jn_base.proofs.Reaching.{declared_in_universe}
use Rattle.jn_base.proofs.ResolveOnce.{term_once}
use Rattle.jn_sem.specs.Acts.{Make}
use Rattle.jn_sem.specs.LawsOfSlots.{HeadNamed}
use Rattle.jn_sem.specs.Normal.{moved, same_path}
use Rattle.jn_sem.specs.NormalFunction.{normal_type}
use Rattle.jn_sem.specs.Sharing.{IsClass}
use Rattle.jn_sem.specs.Terms.{Site, spot_at, vars_at, TermIs}
use Rattle.jn_sem.specs.Does.{Body, IsBody, IsConstructorBody}
use Rattle.jn_sem.proofs.NormalTypes.{moved_same}
use Rattle.jn_sem.proofs.Under.{bound_later, type_anchored}
use Rattle.jn_laws.specs.LawsOfFits.{AsDeep}
use Rattle.jn_laws.specs.LawsOfWritten.{HeaderPath, HeaderPaths, scope_of}
use Rattle.jn_laws.proofs.Terms.{term_case}
use Rattle.jn_laws.proofs.WrittenTypes.{written_types}
use Rattle.jn_rules.specs.Plans.{OfTerm, Plan}
use Rattle.jn_rules.specs.Questions.{Gives, Means, Finds}
use Rattle.jn_rules.specs.Headers.{Header, header_typed}
use Rattle.jn_rules.specs.Exprs.{Here, site_here, Typed, Passed, bind, next_path, fresh_with, of_new, gives, as_many, call_typed, made_exact, made_with, made_by, new_typed, replaced_paths, expr_types}
use Rattle.jn_rules.specs.Forms.{typed_args, typed_expr}
use Rattle.jn_rules.specs.Stmts.{In}
use Rattle.jn_rules.proofs.FormLaws.{forms_are}
use Rattle.jn_rules.proofs.PlanLaws.{then_came, wanted, took}
use Rattle.jn_rule_laws.specs.LawsOfHeaders.{IsHeader}
use Rattle.jn_rule_laws.proofs.HeaderLaws.{headers_are_the_meanings}
use Rattle.jn_rule_laws.specs.LawsOfForms.{Grown, none as none_grown, more as more_grown, TypeKnown, header_scope, CallsOf}
use Rattle.jn_rule_laws.specs.LawsOfOneHeader.{HeaderFits}
use Rattle.jn_rule_laws.proofs.CallTypes.{call_types_fit}
use Rattle.jn_rule_laws.proofs.KnownTypes.{path_types_fit, fresh_known, later_known}
use Rattle.jn_rule_laws.proofs.OneHeaders.{headers_fit}
use Rattle.jn_rule_laws.proofs.SameSignatures.{signatures}
use Rattle.jn_sound.specs.KnownScopes.{here_in, ScopeKnown}
use Rattle.jn_sound.specs.Callees.{Callee}
use Rattle.jn_sound.specs.Takes.{Opd, opd, typing, Takes, ArgsFit, NewBy, Unused, make, make_with}
use Rattle.jn_sound.proofs.Makes.{constructor_named}
use Rattle.jn_sound.specs.Tree.{Fresher, OpsBound, ProgramKnown}
use Rattle.jn_sound.proofs.Scopes.{grown_of, grown_joined, grown_among, atom_grown, scope_bind}
use Rattle.jn_sound.proofs.Settled.{subst_settled}
use Rattle.jn_sound.proofs.RuledForms.{gave}
use Rattle.jn_sound.proofs.News.{bound_for, header_bound}
use Rattle.jn_place_laws.proofs.Going.{onto}
use Rattle.jn_place_laws.proofs.Operands.{taken_all}

made_paths : (vs : List Var) (x : Atom) → ((q k : ℕ) → x.anchor ≡ Up q k → HeaderPath vs q)
    → HeaderPaths vs (made_exact x)
made_paths vs x g _ q k first e = g q k e
made_paths vs x g y q k (later m) e = elim m [ ]

made_anchored : (s : Scope) (x : Atom) → Anchored s x.anchor → (y : Atom) → Among (atoms_in (made_exact x)) y
    → Anchored s (moved same_path y).anchor
made_anchored s x a y m = subst (λ (z : Atom). Anchored s z.anchor) (sym (moved_same y)) (own y m) where
  own : (z : Atom) → Among (atoms_in (made_exact x)) z → Anchored s z.anchor
  own _ first = a
  own z (later n) = elim n [ ]

same_atom : (x y : ShownAtom) → (let a : Result ShownAtom Refusal = Ok x in let b : Result ShownAtom Refusal = Ok y in a ≡ b)
    → x ≡ y
same_atom x y e = cc

-- operands among those that were pushed
pushed_among : (os ops : List Opd) (o : Opd) → Among (onto os ops) o → Among os o ⊎ Among ops o
pushed_among [] ops o m = inr m
pushed_among (a ∷ os) ops o m = at (pushed_among os (a ∷ ops) o m) where
  below : (o : Opd) → Among (a ∷ ops) o → Among (a ∷ os) o ⊎ Among ops o
  below _ first = inl first
  below o (later n) = inr n

  at : Among os o ⊎ Among (a ∷ ops) o → Among (a ∷ os) o ⊎ Among ops o
  at (inl n) = inl (later n)
  at (inr n) = below o n

-- the type of a new object
abbrev pub made : Scope → Atom → Ty
made s x = normal_type s (made_exact x)

-- `new` with these arguments, typed as y: without a constructor, or by one
pub data NewTyped (p : Program) (h : Here) (s : Scope) (x : Atom) (es : List Expr) (y : Typed) : Type 0 where
  bare : ((c : Body) → IsConstructorBody p (bound s x) c → ⊥) → length es ≡ 0
      → y ≡ of_new (made s x) (fresh_with (made s x) s) (fresh_with (made s x) s).scope → NewTyped p h s x es y
  by : (b : Body) (c : Header) (passed : Passed) → IsConstructorBody p (bound s x) b → IsHeader p b c
      → length c.vars ≡ length es
      → Gives p (call_typed h c (typed_args h es) (fresh_with (made s x) s)) (Ok passed)
      → y ≡ of_new (made s x) (fresh_with (made s x) s) passed.scope → NewTyped p h s x es y

pub new_is_typed : (p : Program) (h : Here) (at : Place) (s : Scope) (u : Term) (x : Atom) (es : List Expr) (y : Typed)
    → TermIs p role.New (site_here h) u x → Gives p (expr_types h (expr at (node.New u es)) s) (Ok y)
    → NewTyped p h s x es y
new_is_typed p h at s u x es y is g =
    let a = subst (λ (z : Plan Typed). Gives p z (Ok y)) ((forms_are.exprs h at s).new u es) g in
    let r = took a.0 (new_typed h at (typed_args h es) s) y a.2 in
    let e : r.given ≡ is.0 = same_atom r.given is.0
    (term_once p (spot_at (site_here h) role.New) (vars_at (site_here h)) u (Ok r.given) (Ok is.0)
    (subst (λ z. Means p (OfTerm role.New (site_here h) u) z) r.is a.1) is.1) in
    subst (λ (z : Atom). NewTyped p h s z es y) (ap atom_of e ∙ sym is.2)
    (with_body (atom_of r.given) r.then.0 r.then.1 r.then.2) where
      with_body : (z : Atom) (o : Option Body) → Finds (IsConstructorBody p (bound s z)) o
          → Gives p (made_with h at (typed_args h es) s (normal_type s (made_exact z)) o) (Ok y) → NewTyped p h s z es y
      with_body z None lacks g =
          let w = wanted (nat_eq (length (typed_args h es)) 0) _ _ y g in
          bare lacks (sym (length-map es (typed_expr h)) ∙ eqb-true (length (typed_args h es)) 0 w.test)
          (gave p _ y w.then)
      with_body z (Some c0) cons g =
          let d = then_came (header_typed c0) (made_by h at (typed_args h es) s (normal_type s (made_exact z)) c0) y g in
          let w = wanted (as_many d.first (typed_args h es)) _ _ y d.then in
          let c = then_came (call_typed h d.first (typed_args h es) (fresh_with (normal_type s (made_exact z)) s))
          (λ v. gives (of_new (normal_type s (made_exact z)) (fresh_with (normal_type s (made_exact z)) s) v.scope)) y
          w.then in
          by c0 d.first c.first cons ((headers_are_the_meanings p c0 d.first).0 d.gave)
          (eqb-true (length d.first.vars) (length (typed_args h es)) w.test ∙ length-map es (typed_expr h)) c.gave
          (gave p _ y c.then)

module _ (p : Program) (b : In) (vs : List Var) (its : ProgramKnown p) where
  abbrev h : Here
  h = here_in b vs

  abbrev site : Site
  site = site_here (here_in b vs)

  -- what a term of `new` stands for
  pub record NewThere (s : Scope) (u : Term) (x : Atom) : Type 0 where
    pub is : TermIs p role.New (site_here (here_in b vs)) u x
    pub anchored : Anchored s x.anchor
    pub class : IsClass p (bound s x)
    pub path : (q k : ℕ) → x.anchor ≡ Up q k → HeaderPath vs q
    pub paths : HeaderPaths vs (made_exact x)
    pub known : TypeKnown s (normal_type s (made_exact x))
    pub depth : (y : Atom) → Among (atoms_in (normal_type s (made_exact x))) y → length (bound s y) ≡ length (bound s x)

  pub new_there : (s : Scope) → ScopeKnown p (here_in b vs) s → (u : Term) → HeadNamed u.head → (x : Atom)
      → TermIs p role.New (site_here (here_in b vs)) u x → NewThere s u x
  new_there s k u head x is =
      let a = bound_for k.scope x ((written_types p its.shallow).of_term role.New site u x k.site head is) in record {
        is = is;
        anchored = a.0;
        class = record {
          universe = subst (InUniverse p) (sym a.1) ((written_types p its.shallow).new_class site u x is);
          kind = subst (λ (B : Path). HasKind p B kind.Class) (sym a.1)
              (subst (λ (z : Atom). HasKind p (bound (scope_of site) z) kind.Class) (sym is.2)
              (term_case p (spot_at site role.New) (vars_at site) u is.0 is.1).class);
        };
        path = λ q j e. (written_types p its.shallow).term_path role.New site u x q j is e;
        paths = made_paths vs x (λ q j e. (written_types p its.shallow).term_path role.New site u x q j is e);
        known = (path_types_fit p).made site s u x its.shallow k.site head k.scope is;
        depth = λ y m. (path_types_fit p).made_depth site s u x y its.shallow k.site head k.scope is m;
      }

  module _ (s : Scope) (k : ScopeKnown p (here_in b vs) s) (u : Term) (x : Atom) (there : NewThere s u x) where
    abbrev T : Ty
    T = normal_type s (made_exact x)

    abbrev q : ℕ
    q = next_path s

    pub good : ScopeKnown p (here_in b vs) (bind (next_path s) (normal_type s (made_exact x)) ∷ s)
    good = scope_bind p (here_in b vs) s (normal_type s (made_exact x)) k there.known.fits

    pub unbound : Binds s (next_path s) → ⊥
    unbound = good.scope.binds.1

    -- without a constructor
    pub bare_takes : ((c : Body) → IsConstructorBody p (bound s x) c → ⊥) → (keeps : Bool) (ops : List Opd)
        → Takes p b vs (Make u 0 keeps) (typing s ops) vs
        (typing s (cond keeps (opd (normal_type s (made_exact x)) None ∷ ops) ops))
    bare_takes lacks keeps ops = make u keeps x there.is
        (record { paths = there.paths; class = there.class; no_params = λ c i. absurd (lacks c i) }) there.known.fits

    -- by a constructor
    module _ (c0 : Body) (cons : IsConstructorBody p (bound s x) c0) (c : Header) (header : IsHeader p c0 c) where
      heads : HeaderFits p c0 c
      heads =
          let m = constructor_named p (bound s x) c0 cons in
          headers_fit p c0.class m.0 c0.method c its.shallow its.well
          (declared_in_universe p c0.class m.1.at.decl m.1.at.stands) m.1.at header

      pub calls : CallsOf p c0 c
      calls = call_types_fit p c0 c heads

      bound_two : bound (bind (next_path s) (normal_type s (made_exact x)) ∷ s) x ≡ bound s x
      bound_two = bound_later good.scope.binds x there.anchored

      pub deep : AsDeep (header_scope c0 c) (bind (next_path s) (normal_type s (made_exact x)) ∷ s) 0 (next_path s)
      deep =
          let m = constructor_named p (bound s x) c0 cons in
          let o = there.known.fits.atoms tt in
          let f = fresh_known s q T good.scope.binds in
          calls.at_bound (bind q T ∷ s) m.0 x q (subst (λ (B : Path). IsBody p B m.0 c0) (sym bound_two) m.1) f.bound_in
          (f.depth o.one o.among
          ∙ ap length (bound_later good.scope.binds o.one (type_anchored there.known.fits o.one o.among))
          ∙ there.depth o.one o.among ∙ ap length (sym bound_two))

      module _ (passed : Scope) (grown : Fresher (bind (next_path s) (normal_type s (made_exact x)) ∷ s) passed)
          (known : ScopeKnown p (here_in b vs) passed) where
        whole : Grown s passed
        whole = grown_joined (more_grown none_grown) (grown_of grown)

        pub settled : normal_type passed (made_exact x) ≡ normal_type s (made_exact x)
        settled = subst_settled s passed same_path (made_exact x) whole known.scope.binds (made_anchored s x there.anchored)

        pub bound_three : Anchored passed x.anchor × (bound passed x ≡ bound s x)
        bound_three = atom_grown whole known.scope.binds x there.anchored

        type : TypeFits passed (normal_type s (made_exact x))
        type = (later_known (grown_of grown) known.scope.binds
            (later_known (more_grown none_grown) good.scope.binds there.known)).fits

        pub by_takes : (keeps : Bool) (es : List Expr) (args : List Opd) (all : List ℕ) (ops : List Opd) → OpsBound s ops
            → length args ≡ length es → ArgsFit passed (replaced_paths c.vars) (next_path s ∷ all) c.vars args all
            → ((old : ℕ) → Binds (bind (next_path s) (normal_type s (made_exact x)) ∷ s) old → (HeaderPath vs old → ⊥)
            → (o : Opd) → Among args o → o.path ≡ Some old → ⊥)
            → Takes p b vs (Make u (length es) keeps) (typing passed (onto args ops)) vs
            (typing passed (cond keeps (opd (normal_type passed (made_exact x)) (Some (next_path s)) ∷ ops) ops))
        by_takes keeps es args all ops o count fit apart =
            make_with u (length es) keeps x q all args callee there.is new_by mine unused
            (taken_all args ops (length es) count) fit (subst (TypeFits passed) (sym settled) type) where
              callee : Callee
              callee = record { bound = bound s x; body = c0; vars = c.vars; result = c.result }

              new_by : NewBy p vs passed x callee
              new_by = record {
                paths = there.paths;
                class = subst (IsClass p) (sym bound_three.1) there.class;
                body = subst (λ (B : Path). IsConstructorBody p B c0) (sym bound_three.1) cons;
                header = header;
                no_result = (signatures p its.once its.members).void (bound s x) c0 c there.class cons header;
              }

              mine : Among passed (bind (next_path s) (normal_type passed (made_exact x)))
              mine = subst (λ (z : Ty). Among passed (bind (next_path s) z)) (sym settled)
                  (grown_among (grown_of grown) (bind q T) first)

              unused : Unused (next_path s) (onto args ops)
              unused = record { fresh = omega arith; paths = λ z m e. at z (pushed_among args ops z m) e } where
                at : (z : Opd) → Among args z ⊎ Among ops z → z.path ≡ Some (next_path s) → ⊥
                at z (inl i) e = apart q (record { bind = bind q T; among = first; is = refl })
                    (λ d. unbound (header_bound p (here_in b vs) s k q d)) z i e
                at z (inr i) e = unbound (o z i q e)
