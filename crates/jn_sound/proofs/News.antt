-- `new`: its object has a fresh path, for which the arguments are typed; the type is the exact one of what the term
-- stands for.
use Rattle.std.proofs.Common.{◌≡◌, ◌≤◌, ℕ, suc, List, [], ◌∷◌, length, Option, Some, None, Bool, true, false, ◌⊎◌, inl, inr, refl, sym, ap, ◌∙◌, subst, arith, eqb-true}
use Rattle.std.specs.Prelude.{cond, nat_eq, Ok}
use Rattle.std.proofs.lemmas.List.{length-map}
use Rattle.jn_base.specs.declared.tree.Place.{Place}
use Rattle.jn_base.specs.declared.tree.Term.{Term}
use Rattle.jn_base.specs.declared.tree.Kind.TheVariants as kind
use Rattle.jn_base.specs.declared.tree.Program.{Program}
use Rattle.jn_base.specs.declared.tree.Expr.{Expr}
use Rattle.jn_base.specs.declared.tree.Node.TheVariants as node
use Rattle.jn_base.specs.declared.types.Anchor.TheVariants.{Up}
use Rattle.jn_base.specs.declared.types.Atom.{Atom as ShownAtom}
use Rattle.jn_base.specs.declared.types.Ty.{Ty}
use Rattle.jn_base.specs.declared.names.Role.TheVariants as role
use Rattle.jn_base.specs.declared.names.Var.{Var}
use Rattle.jn_base.specs.Parts.{expr}
use Rattle.jn_base.specs.Paths.{Path}
use Rattle.jn_base.specs.Universe.{InUniverse}
use Rattle.jn_base.specs.Members.{HasKind}
use Rattle.jn_base.specs.Atoms.{Atom, atom_of, atoms_in, Among, first, later}
use Rattle.jn_base.specs.Scopes.{Scope, bound, Binds}
use Rattle.jn_base.specs.Fits.{Anchored, TypeFits, BindsFit}
use Rattle.jn_base.specs.Resolve.{is_class, Resolve}
use Rattle.jn_base.proofs.Reaching.{declared_in_universe}
use Rattle.jn_sem.specs.Acts.{Todo, todo, Make}
use Rattle.jn_sem.specs.LawsOfActs.{args_acts}
use Rattle.jn_sem.specs.LawsOfSlots.{HeadNamed}
use Rattle.jn_sem.specs.Normal.{moved, same_path}
use Rattle.jn_sem.specs.NormalFunction.{normal_type}
use Rattle.jn_sem.specs.Sharing.{IsClass}
use Rattle.jn_sem.specs.Terms.{Site, spot_at, vars_at, TermIs}
use Rattle.jn_sem.specs.Does.{Body, IsBody, IsConstructorBody}
use Rattle.jn_sem.proofs.ActLaws.{acts_are}
use Rattle.jn_sem.proofs.BelowOrder.{below_itself}
use Rattle.jn_sem.proofs.NormalTypes.{moved_same}
use Rattle.jn_sem.proofs.Under.{bound_later, type_anchored}
use Rattle.jn_laws.specs.LawsOfFits.{AsDeep}
use Rattle.jn_laws.specs.LawsOfWritten.{HeaderPath, of_this, of_param, HeaderPaths, scope_of}
use Rattle.jn_laws.proofs.AlikeScopes.{anchored_like, bound_like}
use Rattle.jn_laws.proofs.Terms.{this, variable, term_case}
use Rattle.jn_laws.proofs.WrittenTypes.{written_types}
use Rattle.jn_rules.specs.Plans.{OfTerm}
use Rattle.jn_rules.specs.Questions.{Gives, Means, Finds}
use Rattle.jn_rules.specs.Headers.{Header, header_typed}
use Rattle.jn_rules.specs.Exprs.{Here, site_here, Passed, bind, next_path, fresh_with, of_new, gives, as_many, call_typed, made_exact, made_with, made_by, new_typed, replaced_paths}
use Rattle.jn_rules.specs.Forms.{typed_args, typed_expr}
use Rattle.jn_rules.specs.Stmts.{In}
use Rattle.jn_rules.proofs.FormLaws.{forms_are}
use Rattle.jn_rules.proofs.PlanLaws.{then_came, wanted, took}
use Rattle.jn_rule_laws.specs.LawsOfHeaders.{IsHeader}
use Rattle.jn_rule_laws.proofs.HeaderLaws.{headers_are_the_meanings}
use Rattle.jn_rule_laws.specs.LawsOfForms.{Grown, none as none_grown, more as more_grown, ScopeFor, TypeKnown, PathKnown, none as put_none, header_scope, CallsOf}
use Rattle.jn_rule_laws.specs.LawsOfOneHeader.{HeaderFits}
use Rattle.jn_rule_laws.proofs.CallTypes.{call_types_fit}
use Rattle.jn_rule_laws.proofs.KnownTypes.{path_types_fit, fresh_known, later_known, path_later}
use Rattle.jn_rule_laws.proofs.OneHeaders.{headers_fit}
use Rattle.jn_rule_laws.proofs.SameSignatures.{signatures}
use Rattle.jn_sound.specs.KnownScopes.{here_in, ScopeKnown}
use Rattle.jn_sound.specs.Callees.{Callee}
use Rattle.jn_sound.specs.Takes.{Opd, opd, ArgsFit, same, named, unseen, NewClass, NewBy, Unused, make, make_with}
use Rattle.jn_sound.specs.Fit.{Fits, acts as act, moves}
use Rattle.jn_sound.proofs.Makes.{constructor_named}
use Rattle.jn_sound.specs.Tree.{ExprKnown, none as none_more, more, OpsBound, as_they_are, valued, CallGoes, AllFit, CallFits, ProgramKnown}
use Rattle.jn_sound.proofs.Scopes.{grown_of, grown_joined, grown_among, fresher_joined, ops_grown, atom_grown, scope_bind, mentioned_there}
use Rattle.jn_sound.proofs.Settled.{subst_settled}
use Rattle.jn_sound.proofs.RuledForms.{gave}
use Rattle.jn_sound.proofs.CallsFit.{pushed, pushed_among, all_taken, ArgsGo, args_go}
use Rattle.jn_sound.proofs.Exprs.{asked}
use Rattle.jn_sound.proofs.CallForms.{call_as}

-- ---- atoms in a scope

-- an atom that is anchored where its term stands is anchored in the scope, with the same bound
pub bound_for : {at : Site} {s : Scope} → ScopeFor at s → (x : Atom) → Anchored (scope_of at) x.anchor
    → Anchored s x.anchor × (bound s x ≡ bound (scope_of at) x)
bound_for k x a =
    let r = atom_grown k.grown k.binds x (anchored_like k.alike x.anchor a) in
    (r.0, r.1 ∙ bound_like k.alike x)

-- a path that a type may mention is in scope
pub header_bound : (p : Program) (h : Here) (s : Scope) → ScopeKnown p h s → (q : ℕ) → HeaderPath h.vars q → Binds s q
header_bound p h s k q (of_this e) = (mentioned_there p h s q k (this e)).0
header_bound p h s k q (of_param x m e f c) = (mentioned_there p h s q k (variable refl x m e f c)).0

made_paths : (vs : List Var) (x : Atom) → ((q k : ℕ) → x.anchor ≡ Up q k → HeaderPath vs q)
    → HeaderPaths vs (made_exact x)
made_paths vs x g _ q k first e = g q k e
made_paths vs x g y q k (later m) e = elim m [ ]

made_anchored : (s : Scope) (x : Atom) → Anchored s x.anchor → (y : Atom) → Among (atoms_in (made_exact x)) y
    → Anchored s (moved same_path y).anchor
made_anchored s x a y m = subst (λ (z : Atom). Anchored s z.anchor) (sym (moved_same y)) (own y m) where
  own : (z : Atom) → Among (atoms_in (made_exact x)) z → Anchored s z.anchor
  own _ first = a
  own z (later n) = elim n [ ]

-- ---- what is known of a new object

made_typed : (p : Program) (h : Here) (s : Scope) (t : Ty) → TypeKnown s t → is_class t ≡ true
    → BindsFit (bind (next_path s) t ∷ s) → (u : Scope) → ScopeKnown p h u → Grown (bind (next_path s) t ∷ s) u
    → ExprKnown p h (record { ty = t; path = Some (next_path s); scope = u })
made_typed p h s t known class binds u k g = record {
  scope = k;
  type = later_known g k.scope.binds here;
  path = λ r e. subst (λ (z : ℕ). PathKnown u z t) (same_path_is r e)
      (path_later (next_path s) g k.scope.binds here (fresh_known s (next_path s) t binds));
  class = λ r e. class;
  mentioned = λ r e. inr (fresh r (same_path_is r e));
} where
  here : TypeKnown (bind (next_path s) t ∷ s) t
  here = later_known (more_grown none_grown) binds known

  same_path_is : (r : ℕ) → Some (next_path s) ≡ Some r → next_path s ≡ r
  same_path_is r e = cc

  fresh : (r : ℕ) → next_path s ≡ r → 256 ≤ r
  fresh r e = omega (arith, e)

module _ (p : Program) (b : In) (vs : List Var) (its : ProgramKnown p) where
  abbrev h : Here
  h = here_in b vs

  abbrev n : ℕ
  n = length vs

  abbrev site : Site
  site = site_here (here_in b vs)

  -- what a term of `new` stands for
  record NewThere (s : Scope) (u : Term) (x : Atom) : Type 0 where
    is : TermIs p role.New (site_here (here_in b vs)) u x
    anchored : Anchored s x.anchor
    class : IsClass p (bound s x)
    paths : HeaderPaths vs (made_exact x)
    known : TypeKnown s (normal_type s (made_exact x))
    depth : (y : Atom) → Among (atoms_in (normal_type s (made_exact x))) y → length (bound s y) ≡ length (bound s x)

  new_there : (s : Scope) → ScopeKnown p (here_in b vs) s → (u : Term) → HeadNamed u.head → (given : ShownAtom)
      → Resolve p (spot_at (site_here (here_in b vs)) role.New) (vars_at (site_here (here_in b vs))) u (Ok given)
      → NewThere s u (atom_of given)
  new_there s k u head given resolved =
      let is : TermIs p role.New (site_here (here_in b vs)) u (atom_of given) = (given, resolved, refl) in
      let a = bound_for k.scope (atom_of given)
      ((written_types p its.shallow).of_term role.New site u (atom_of given) k.site head is) in record {
        is = is;
        anchored = a.0;
        class = record {
          universe = subst (InUniverse p) (sym a.1)
              ((written_types p its.shallow).new_class site u (atom_of given) is);
          kind = subst (λ (B : Path). HasKind p B kind.Class) (sym a.1)
              (term_case p (spot_at site role.New) (vars_at site) u given resolved).class;
        };
        paths = made_paths vs (atom_of given)
            (λ q j e. (written_types p its.shallow).term_path role.New site u (atom_of given) q j is e);
        known = (path_types_fit p).made site s u (atom_of given) its.shallow k.site head k.scope is;
        depth = λ y m. (path_types_fit p).made_depth site s u (atom_of given) y its.shallow k.site head k.scope is m;
      }

  module _ (s : Scope) (k : ScopeKnown p (here_in b vs) s) (u : Term) (x : Atom) (there : NewThere s u x) where
    abbrev T : Ty
    T = normal_type s (made_exact x)

    abbrev q : ℕ
    q = next_path s

    good : ScopeKnown p (here_in b vs) (bind (next_path s) (normal_type s (made_exact x)) ∷ s)
    good = scope_bind p (here_in b vs) s (normal_type s (made_exact x)) k there.known.fits

    unbound : Binds s (next_path s) → ⊥
    unbound = good.scope.binds.1

    -- ---- where there is no constructor

    made_bare : ((c : Body) → IsConstructorBody p (bound s x) c → ⊥)
        → CallGoes p b (here_in b vs) (λ keeps r. todo (length vs) (Make u 0 keeps) ∷ r) s as_they_are
        (of_new (normal_type s (made_exact x)) (fresh_with (normal_type s (made_exact x)) s)
        (fresh_with (normal_type s (made_exact x)) s).scope)
    made_bare lacks = record {
      known = made_typed p (here_in b vs) s T there.known refl good.scope.binds (bind q T ∷ s) good none_grown;
      grown = more (omega arith) none_more;
      fits = λ keeps r ops o v rest. by keeps r ops rest;
    } where
      new : NewClass p vs s x
      new = record { paths = there.paths; class = there.class; no_params = λ c i. absurd (lacks c i) }

      by : (keeps : Bool) (r : List Todo) (ops : List Opd) → Fits p b r vs
          (bind (next_path s) (normal_type s (made_exact x)) ∷ s)
          (valued keeps (of_new (normal_type s (made_exact x)) (fresh_with (normal_type s (made_exact x)) s)
          (fresh_with (normal_type s (made_exact x)) s).scope) ops)
          → Fits p b (todo (length vs) (Make u 0 keeps) ∷ r) vs s ops
      by true r ops rest =
          act refl (make u true x there.is new there.known.fits)
          (moves (named T T q (omega arith) unbound there.known.fits (below_itself T tt) same) rest)
      by false r ops rest =
          act refl (make u false x there.is new there.known.fits)
          (moves (unseen T q (omega arith) unbound there.known.fits same) rest)

    -- ---- by a constructor

    module _ (es : List Expr) (fit : AllFit p b (here_in b vs) es) (c0 : Body)
        (cons : IsConstructorBody p (bound s x) c0) (c : Header) (header : IsHeader p c0 c)
        (long : length c.vars ≡ length es) (passed : Passed)
        (args : Gives p (call_typed (here_in b vs) c (typed_args (here_in b vs) es)
        (fresh_with (normal_type s (made_exact x)) s)) (Ok passed)) where
      heads : HeaderFits p c0 c
      heads =
          let m = constructor_named p (bound s x) c0 cons in
          headers_fit p c0.class m.0 c0.method c its.shallow its.well
          (declared_in_universe p c0.class m.1.at.decl m.1.at.stands) m.1.at header

      calls : CallsOf p c0 c
      calls = call_types_fit p c0 c heads

      bound_two : bound (bind (next_path s) (normal_type s (made_exact x)) ∷ s) x ≡ bound s x
      bound_two = bound_later good.scope.binds x there.anchored

      deep : AsDeep (header_scope c0 c) (bind (next_path s) (normal_type s (made_exact x)) ∷ s) 0 (next_path s)
      deep =
          let m = constructor_named p (bound s x) c0 cons in
          let o = there.known.fits.atoms tt in
          let f = fresh_known s q T good.scope.binds in
          calls.at_bound (bind q T ∷ s) m.0 x q (subst (λ (B : Path). IsBody p B m.0 c0) (sym bound_two) m.1) f.bound_in
          (f.depth o.one o.among
          ∙ ap length (bound_later good.scope.binds o.one (type_anchored there.known.fits o.one o.among))
          ∙ there.depth o.one o.among ∙ ap length (sym bound_two))

      behind : ArgsGo p b (here_in b vs) c0 c calls c.vars es (bind (next_path s) (normal_type s (made_exact x)) ∷ s)
          (next_path s) [] passed
          → CallGoes p b (here_in b vs) (λ keeps r. args_acts (length vs) es
          (todo (length vs) (Make u (length es) keeps) ∷ r)) s
          as_they_are (of_new (normal_type s (made_exact x)) (fresh_with (normal_type s (made_exact x)) s) passed.scope)
      behind a = record {
        known = here;
        grown = fresher_joined (more (omega arith) none_more) a.grown;
        fits = λ keeps r ops o v rest. moves (unseen T q (omega arith) unbound there.known.fits same)
            (a.fits (todo (length vs) (Make u (length es) keeps) ∷ r) ops (ops_grown (more_grown none_grown) o)
            (act refl (make_with u (length es) keeps x q a.all a.args callee there.is new_by mine (unused ops o)
            (all_taken a.args ops (length es) a.count)
            (subst (ArgsFit passed.scope (replaced_paths c.vars) (q ∷ a.all) c.vars a.args) (sym a.split) a.fit)
            (subst (TypeFits passed.scope) (sym settled) here.type.fits)) (kept keeps r ops rest)));
      } where
        callee : Callee
        callee = record { bound = bound s x; body = c0; vars = c.vars; result = c.result }

        grown : Grown s passed.scope
        grown = grown_joined (more_grown none_grown) (grown_of a.grown)

        here : ExprKnown p (here_in b vs)
            (of_new (normal_type s (made_exact x)) (fresh_with (normal_type s (made_exact x)) s) passed.scope)
        here = made_typed p (here_in b vs) s T there.known refl good.scope.binds passed.scope a.known (grown_of a.grown)

        bound_three : bound passed.scope x ≡ bound s x
        bound_three = (atom_grown grown a.known.scope.binds x there.anchored).1

        settled : normal_type passed.scope (made_exact x) ≡ normal_type s (made_exact x)
        settled = subst_settled s passed.scope same_path (made_exact x) grown a.known.scope.binds
            (made_anchored s x there.anchored)

        new_by : NewBy p vs passed.scope x callee
        new_by = record {
          paths = there.paths;
          class = subst (IsClass p) (sym bound_three) there.class;
          body = subst (λ (B : Path). IsConstructorBody p B c0) (sym bound_three) cons;
          header = header;
          no_result = (signatures p its.once its.members).void (bound s x) c0 c there.class cons header;
        }

        mine : Among passed.scope (bind (next_path s) (normal_type passed.scope (made_exact x)))
        mine = subst (λ (z : Ty). Among passed.scope (bind (next_path s) z)) (sym settled)
            (grown_among (grown_of a.grown) (bind q T) first)

        unused : (ops : List Opd) → OpsBound s ops → Unused (next_path s) (pushed a.args ops)
        unused ops o = record { fresh = omega arith; paths = λ z m e. at z (pushed_among a.args ops z m) e } where
          at : (z : Opd) → Among a.args z ⊎ Among ops z → z.path ≡ Some (next_path s) → ⊥
          at z (inl i) e = a.apart q (record { bind = bind q T; among = first; is = refl })
              (λ d. unbound (header_bound p (here_in b vs) s k q d)) z i e
          at z (inr i) e = unbound (o z i q e)

        kept : (keeps : Bool) (r : List Todo) (ops : List Opd) → Fits p b r vs passed.scope (valued keeps
            (of_new (normal_type s (made_exact x)) (fresh_with (normal_type s (made_exact x)) s) passed.scope) ops)
            → Fits p b r vs passed.scope
            (cond keeps (opd (normal_type passed.scope (made_exact x)) (Some (next_path s)) ∷ ops) ops)
        kept true r ops rest =
            subst (λ (z : Ty). Fits p b r vs passed.scope (opd z (Some q) ∷ ops)) (sym settled) rest
        kept false r ops rest = rest

      made_call : CallGoes p b (here_in b vs)
          (λ keeps r. args_acts (length vs) es (todo (length vs) (Make u (length es) keeps) ∷ r)) s as_they_are
          (of_new (normal_type s (made_exact x)) (fresh_with (normal_type s (made_exact x)) s) passed.scope)
      made_call = behind (args_go p b (here_in b vs) c0 c calls es fit [] c.vars (bind q T ∷ s) q [] passed refl long
          good
          deep put_none args)

  -- ---- the form

  pub new_goes : (at : Place) (u : Term) (es : List Expr) → HeadNamed u.head → AllFit p b (here_in b vs) es
      → CallFits p b (here_in b vs) (expr at (node.New u es))
  new_goes at u es head fit s t k g =
      let a = asked p b (here_in b vs) its.shallow its.well (expr at (node.New u es)) s t _
      ((forms_are.exprs h at s).new u es) g in
      let r = took a.0 (new_typed h at (typed_args h es) s) t a.2 in
      call_as (λ keeps j. (acts_are.exprs at keeps n j).new u es)
      (by (atom_of r.given) (new_there s k u head r.given
      (subst (λ z. Means p (OfTerm role.New (site_here (here_in b vs)) u) z) r.is a.1)) r.then.0 r.then.1 r.then.2)
    where
      none : (x : Atom) → NewThere s u x → ((c : Body) → IsConstructorBody p (bound s x) c → ⊥) → (zs : List Expr)
          → length (typed_args (here_in b vs) zs) ≡ 0
          → CallGoes p b (here_in b vs) (λ keeps j. args_acts (length vs) zs
          (todo (length vs) (Make u (length zs) keeps) ∷ j))
          s as_they_are (of_new (normal_type s (made_exact x)) (fresh_with (normal_type s (made_exact x)) s)
          (fresh_with (normal_type s (made_exact x)) s).scope)
      none x there lacks [] e = made_bare s k u x there lacks
      none x there lacks (z ∷ zs) e = absurd (no_length e) where
        no_length : {m : ℕ} → suc m ≡ 0 → ⊥
        no_length i = omega (arith, i)

      by : (x : Atom) → NewThere s u x → (o : Option Body) → Finds (IsConstructorBody p (bound s x)) o
          → Gives p (made_with (here_in b vs) at (typed_args (here_in b vs) es) s (normal_type s (made_exact x)) o)
          (Ok t)
          → CallGoes p b (here_in b vs) (λ keeps j. args_acts (length vs) es
          (todo (length vs) (Make u (length es) keeps) ∷ j))
          s as_they_are t
      by x there None lacks g =
          let w = wanted (nat_eq (length (typed_args h es)) 0) _ _ t g in
          subst (CallGoes p b (here_in b vs) (λ keeps j. args_acts (length vs) es
          (todo (length vs) (Make u (length es) keeps) ∷ j)) s as_they_are)
          (sym (gave p _ t w.then)) (none x there lacks es (eqb-true (length (typed_args h es)) 0 w.test))
      by x there (Some c0) cons g =
          let d = then_came (header_typed c0) (made_by h at (typed_args h es) s (normal_type s (made_exact x)) c0) t
          g in
          let w = wanted (as_many d.first (typed_args h es)) _ _ t d.then in
          let c = then_came (call_typed h d.first (typed_args h es) (fresh_with (normal_type s (made_exact x)) s))
          (λ z. gives (of_new (normal_type s (made_exact x)) (fresh_with (normal_type s (made_exact x)) s) z.scope)) t
          w.then in
          subst (CallGoes p b (here_in b vs) (λ keeps j. args_acts (length vs) es
          (todo (length vs) (Make u (length es) keeps) ∷ j)) s as_they_are)
          (sym (gave p _ t c.then))
          (made_call s k u x there es fit c0 cons d.first ((headers_are_the_meanings p c0 d.first).0 d.gave)
          (eqb-true (length d.first.vars) (length (typed_args h es)) w.test ∙ length-map es (typed_expr h)) c.first
          c.gave)
