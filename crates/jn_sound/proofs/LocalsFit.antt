-- A local: its value is in its type, and it is in scope behind it.
use Rattle.std.proofs.Common.{◌≡◌, ◌≤◌, ◌<◌, ℕ, suc, List, [], ◌∷◌, ◌++◌, length, Bool, true, false, ◌⊎◌, inl, inr, refl, sym, ap, ◌∙◌, subst, arith, Contains}
use Rattle.std.specs.Prelude.{◌+◌, ◌&&◌, cond, nat_lt, Result, Ok}
use Rattle.std.proofs.lemmas.List.{length-append}
use Rattle.std.proofs.lemmas.Bool.{ltb-false}
use Rattle.jn_base.specs.declared.tree.Program.{Program}
use Rattle.jn_base.specs.declared.tree.Stmt.{Stmt}
use Rattle.jn_base.specs.declared.tree.Stmt.TheOpen.{Stmt-F}
use Rattle.jn_base.specs.declared.tree.Stmt.TheVariants as stmt
use Rattle.jn_base.specs.declared.types.Ty.{Ty}
use Rattle.jn_base.specs.declared.names.Var.{Var}
use Rattle.jn_base.specs.declared.refusal.Refusal.{Refusal}
use Rattle.jn_base.specs.Atoms.{Among, first, later}
use Rattle.jn_base.specs.Scopes.{Bind, Scope, Binds}
use Rattle.jn_base.specs.Fits.{BindsFit, TypeFits}
use Rattle.jn_base.specs.Resolve.{is_class, var_bind}
use Rattle.jn_sem.specs.Acts.{Todo, todo, acts, stmts_acts, Bind as BindAct}
use Rattle.jn_sem.specs.Below.{Below}
use Rattle.jn_sem.specs.Does.{var}
use Rattle.jn_sem.specs.Normal.{same_path}
use Rattle.jn_sem.specs.Terms.{Site, TypeIs}
use Rattle.jn_sem.proofs.ActLaws.{acts_are}
use Rattle.jn_sem.proofs.NormalTypes.{type_subst_is}
use Rattle.jn_laws.specs.LawsOfScopes.{ScopesAlike, one as alike_one}
use Rattle.jn_laws.specs.LawsOfWritten.{TypeThere, IsWritten, TypeWellFormed, scope_of}
use Rattle.jn_laws.specs.LawsOfBodies.{local_types, locals_step}
use Rattle.jn_laws.proofs.AlikeScopes.{binds_like, fits_like}
use Rattle.jn_laws.proofs.WrittenTypes.{among_more, one_more, of_value}
use Rattle.jn_rules.specs.Plans.{Plan, Mark, OfType, note_all}
use Rattle.jn_rules.specs.Questions.{Gives, Means}
use Rattle.jn_rules.specs.Headers.{declared_type}
use Rattle.jn_rules.specs.Exprs.{Typed, site_here, bind, fresh_paths, next_path}
use Rattle.jn_rules.specs.Stmts.{In, Before, here, typed, with_local, local_typed, local_with, atom_marks}
use Rattle.jn_rules.proofs.FormLaws.{forms_are}
use Rattle.jn_rules.proofs.PlanLaws.{then_came, took}
use Rattle.jn_rule_laws.specs.LawsOfForms.{none as none_grown, more as more_grown}
use Rattle.jn_rule_laws.proofs.KnownTypes.{later_known}
use Rattle.jn_rule_laws.proofs.Behind.{noted}
use Rattle.jn_sound.specs.Takes.{opd, same, wider, local}
use Rattle.jn_sound.specs.Fit.{Fits, Narrowed, acts as act, moves, narrows, kept}
use Rattle.std.proofs.lemmas.List.Elements.{Contains-append_right}
use Rattle.jn_base.specs.declared.tree.TypeTerm.{TypeTerm}
use Rattle.jn_base.specs.declared.tree.Named.{Named}
use Rattle.jn_base.specs.declared.tree.Expr.{Expr}
use Rattle.jn_base.specs.declared.tree.Stmt.{roll-Stmt}
use Rattle.jn_base.specs.declared.tree.Stmt.TheFolds.{map-Stmt, fold-roll-Stmt}
use Rattle.jn_base.specs.Forms.{Termed, of_type, of_expr}
use Rattle.jn_base.proofs.FormEquations.{at_local}
use Rattle.jn_base.proofs.NameTests.{first as in_first}
use Rattle.jn_body_laws.specs.BodyForms.{TermsNamed, ExprFormed, StmtFormed}
use Rattle.jn_sound.specs.KnownScopes.{here_in, MasksFormed, StmtKnown}
use Rattle.jn_sound.specs.Tree.{Fresher, none as fresh_none, more as fresh_more, GoesTo, as_they_are}
use Rattle.jn_sound.specs.Stmts.{BodyKnown, StmtGoes, StmtFits}
use Rattle.jn_sound.proofs.Variables.{scope_more}
use Rattle.jn_sound.proofs.MaskSets.{type_formed, formed_as_given}
use Rattle.jn_sound.proofs.Scopes.{fits_grown, grown_of, no_ops}
use Rattle.jn_sound.proofs.RuledForms.{not_void_below}
use Rattle.jn_sound.proofs.CallsFit.{not_void}
use Rattle.jn_sound.proofs.Stmts.{narrowed_fresh, take_all, passed, answered, asked}

free_fresh : {s t : Scope} (q : ℕ) → Fresher s t → q < 256 → (Binds s q → ⊥) → Binds t q → ⊥
free_fresh q fresh_none l free n = free n
free_fresh q (fresh_more {t = t} {b = c} f g) l free n = at n.bind n.among n.is (free_fresh q g l free) where
  at : (d : Bind) → Among (c ∷ t) d → d.path ≡ q → (Binds t q → ⊥) → ⊥
  at _ first e again = omega (arith, f, l, e)
  at d (later m) e again = again (record { bind = d; among = m; is = e })

next_small : (s : Scope) (v : Var) → v.path < 256 → next_path (var_bind v ∷ s) ≡ next_path s
next_small s v l = at (nat_lt v.path 256) refl where
  at : (c : Bool) → nat_lt v.path 256 ≡ c → 256 + cond c (fresh_paths s) (suc (fresh_paths s)) ≡ 256 + fresh_paths s
  at true e = refl
  at false e = absurd (let k : 256 ≤ v.path = ltb-false v.path 256 e in omega (arith, l, k))

module _ (p : Program) (b : In) (its : BodyKnown p b) where
  module _ (x : Before) (known : StmtKnown p b x) (v : Var) (is : v.path ≡ x.next) (small : x.next < 256) where
    abbrev site : Site
    site = site_here (here_in b x.vars)

    -- the path of the local isn't taken
    pub free : Binds x.scope v.path → ⊥
    free n = at (known.covers.only v.path n) where
      at : (v.path ≡ 0) ⊎ ((w : Var) × Among x.vars w × (w.path ≡ v.path)) → ⊥
      at (inl e) = omega (arith, e, is, known.some)
      at (inr w) = let l = known.older w.0 w.1 in omega (arith, l, w.2, is)

    free_site : Binds (scope_of site) v.path → ⊥
    free_site n = free (binds_like known.alike v.path n)

    among_old : (w : Var) → Among (x.vars ++ v ∷ []) w → Among x.vars w ⊎ (w ≡ v)
    among_old w m = among_more p its.shallow x.vars v w m

    among_left : (vs : List Var) (w : Var) → Among vs w → Among (vs ++ v ∷ []) w
    among_left _ w first = first
    among_left _ w (later m) = later (among_left _ w m)

    among_last : (vs : List Var) → Among (vs ++ v ∷ []) v
    among_last [] = first
    among_last (w ∷ ws) = later (among_last ws)

    pub local_known : TypeThere site v.ty → MasksFormed v.ty → StmtKnown p b (with_local x v)
    local_known there set = record {
      scope = record {
        site = one_more p its.shallow site v known.scope.site there free_site;
        written = λ w m. written w (among_old w m);
        scope = record { base = var_bind v ∷ x.scope; alike = alike; grown = none_grown; binds = binds };
        plain = λ w m e. plain w (among_old w m) e;
        numbered = λ q n. subst (λ (i : ℕ). q < i)
            (sym (next_small x.scope v (subst (λ (i : ℕ). i < 256) (sym is) small))) (numbered q n.bind n.among n.is);
      };
      alike = alike;
      covers = record {
        this = behind 0 known.covers.this;
        only = λ q n. only q n.bind n.among n.is;
        all = λ w m.
            all w (among_old w m);
      };
      some = omega arith;
      older = λ w m. older w (among_old w m);
      params = omega (arith, known.params, length-append x.vars (v ∷ []));
      result = later_known (more_grown none_grown) binds known.result;
      masks = λ c m. masks c m;
    } where
      masks : (c : Bind) → Among (var_bind v ∷ x.scope) c → MasksFormed c.ty
      masks _ first = set
      masks c (later m) = known.masks c m

      fits : TypeFits x.scope v.ty
      fits = fits_like known.alike v.ty there.fits

      binds : BindsFit (var_bind v ∷ x.scope)
      binds = (known.scope.scope.binds, free, fits)

      alike : ScopesAlike (scope_of (site_here (here_in b (x.vars ++ v ∷ [])))) (var_bind v ∷ x.scope)
      alike = subst (λ (s : Scope). ScopesAlike s (var_bind v ∷ x.scope)) (sym (scope_more site v))
          (alike_one (record { path = refl; atoms = refl; class = refl }) known.alike)

      written : (w : Var) → Among x.vars w ⊎ (w ≡ v) → IsWritten w.ty
      written w (inl m) = known.scope.written w m
      written w (inr e) = subst (λ (z : Var). IsWritten z.ty) (sym e) there.written

      plain : (w : Var) → Among x.vars w ⊎ (w ≡ v) → (w.fixed && is_class w.ty) ≡ false → Among (var_bind v ∷ x.scope)
          (bind w.path w.ty)
      plain w (inl m) e = later (known.scope.plain w m e)
      plain w (inr m) e = subst (λ (z : Var). Among (var_bind v ∷ x.scope) (bind z.path z.ty)) (sym m) first

      numbered : (q : ℕ) (c : Bind) → Among (var_bind v ∷ x.scope) c → c.path ≡ q → q < next_path x.scope
      numbered q _ first e = omega (arith, e, is, small)
      numbered q c (later m) e = known.scope.numbered q (record { bind = c; among = m; is = e })

      behind : (q : ℕ) → Binds x.scope q → Binds (var_bind v ∷ x.scope) q
      behind q n = record { bind = n.bind; among = later n.among; is = n.is }

      only : (q : ℕ) (c : Bind) → Among (var_bind v ∷ x.scope) c → c.path ≡ q → (q ≡ 0) ⊎
          ((w : Var) × Among (x.vars ++ v ∷ []) w × (w.path ≡ q))
      only q _ first e = inr (v, among_last x.vars, e)
      only q c (later m) e = at (known.covers.only q (record { bind = c; among = m; is = e })) where
        at : (q ≡ 0) ⊎ ((w : Var) × Among x.vars w × (w.path ≡ q)) → (q ≡ 0) ⊎
            ((w : Var) × Among (x.vars ++ v ∷ []) w × (w.path ≡ q))
        at (inl e) = inl e
        at (inr w) = inr (w.0, among_left x.vars w.0 w.1, w.2)

      all : (w : Var) → Among x.vars w ⊎ (w ≡ v) → Binds (var_bind v ∷ x.scope) w.path
      all w (inl m) = behind w.path (known.covers.all w m)
      all w (inr e) = record { bind = var_bind v; among = first; is = ap (λ (z : Var). z.path) (sym e) }

      older : (w : Var) → Among x.vars w ⊎ (w ≡ v) → w.path < suc x.next
      older w (inl m) = let l = known.older w m in omega (arith, l)
      older w (inr e) = let k : w.path ≡ v.path = ap (λ (z : Var). z.path) e in omega (arith, k, is)

below_limit : (x y : Before) (v : Var) → y ≡ with_local x v → y.next ≤ 256 → x.next < 256
below_limit x y v e l = let k : suc x.next ≤ 256 = subst (λ (z : Before). z.next ≤ 256) e l in omega (arith, k)

pub locals_rolled : (f : Stmt-F Stmt) (s : Stmt) → roll-Stmt f ≡ s → local_types s ≡ locals_step
    (map-Stmt Stmt (List TypeTerm) local_types f)
unfolding local_types
locals_rolled f s e = ap local_types (sym e) ∙ fold-roll-Stmt (List TypeTerm) locals_step f

-- the type of a local has terms
local_formed : (p : Program) (fixed : Bool) (t : TypeTerm) (n : Named) (e : Expr)
    → StmtFormed p (stmt.Local fixed t n e) → TypeWellFormed t
local_formed p fixed t n e f = f.locals t (subst (λ (ts : List TypeTerm). Contains ts t)
    (sym (locals_rolled _ _ (stmt.rolls-Local fixed t n e))) (in_first t []))

local_named : (p : Program) (fixed : Bool) (t : TypeTerm) (n : Named) (e : Expr)
    → StmtFormed p (stmt.Local fixed t n e) → ExprFormed e
local_named p fixed t n e f u c = subst TermsNamed (at_local fixed t n e) f.terms u
    (Contains-append_right (of_type t) (of_expr e) (Termed u) c)

pub local_fits : (p : Program) (b : In) (its : BodyKnown p b) (fixed : Bool) (t : TypeTerm) (n : Named) (e : Expr)
    → StmtFits p b (stmt.Local fixed t n e)
local_fits p b its fixed t n e x y known few inside g =
    let a = asked p b its (stmt.Local fixed t n e) x y _ ((forms_are.stmts b x).local fixed t n e) g in
    let r = took a.0 (local_typed b x fixed n e) y a.2 in
    behind r.given (subst (λ (z : Result Ty Refusal). Means p (OfType (site_here (here b x)) t) z) r.is a.1)
    (noted p (atom_marks r.given) _ (Ok y) r.then) where
      site : Site
      site = site_here (here_in b x.vars)

      here_formed : StmtFormed p (stmt.Local fixed t n e)
      here_formed = its.formed (stmt.Local fixed t n e) inside

      termed : TypeWellFormed t
      termed = local_formed p fixed t n e here_formed

      goes : (v : Var) → v ≡ var n.name x.next fixed v.ty → x.next < 256 → MasksFormed v.ty
          → TypeIs p site t v.ty → (w : Typed) → GoesTo p b
          (here_in b x.vars) (acts (length x.vars) e) x.scope as_they_are w
          → Below p w.scope w.ty v.ty → StmtGoes p b (stmt.Local fixed t n e) x (with_local x v)
      goes v is small set typeis w one below = record {
        known = after;
        fits = λ ss k f. fits ss k
            (passed (Stmt-F.Local fixed t n e) (stmt.Local fixed t n e) (stmt.rolls-Local fixed t n e) refl f);
      } where
        path : v.path ≡ x.next
        path = ap (λ (z : Var). z.path) is

        there : TypeThere site v.ty
        there = of_value p its.shallow site t v.ty known.scope.site termed typeis

        after : StmtKnown p b (with_local x v)
        after = local_known p b its x known v path small there set

        here_fits : TypeFits w.scope v.ty
        here_fits = fits_grown (grown_of one.grown) one.known.scope.scope.binds (fits_like known.alike v.ty there.fits)

        long : length (x.vars ++ v ∷ []) ≡ suc (length x.vars)
        long = omega (arith, length-append x.vars (v ∷ []))

        unbound : Binds w.scope x.next → ⊥
        unbound n = free_fresh x.next one.grown small
            (λ m. free p b its x known v path small (subst (Binds x.scope) (sym path) m)) n

        narrowed : Narrowed (bind x.next v.ty ∷ w.scope) (var_bind v ∷ x.scope)
        narrowed = kept (record { path = path; atoms = refl; masks = λ i m. m; kind = refl; plain = λ e. refl })
            (narrowed_fresh one.grown)

        wide : length b.method.params ≤ length (x.vars ++ v ∷ [])
        wide = after.params

        rest : (k : List Todo) → Fits p b k (x.vars ++ v ∷ []) (var_bind v ∷ x.scope) []
            → Fits p b (todo (length x.vars) (BindAct fixed t n.name x.next) ∷ k) x.vars w.scope (opd w.ty w.path ∷ [])
        rest k f =
            moves (wider w.ty v.ty w.path below here_fits same)
            (act refl (local fixed t n.name x.next v.ty w.path typeis small unbound here_fits there.paths)
            (subst (λ (z : Var). Fits p b k (x.vars ++ z ∷ []) (bind x.next v.ty ∷ w.scope) []) is
            (narrows (take_all (x.vars ++ v ∷ [])) wide narrowed after.scope.scope.binds after.covers f)))

        fits : (ss : List Stmt) (k : List Todo) → Fits p b (stmts_acts (length (x.vars ++ v ∷ [])) (suc x.next) ss k)
            (x.vars ++ v ∷ []) (var_bind v ∷ x.scope) []
            → Fits p b (stmts_acts (length x.vars) x.next (stmt.Local fixed t n e ∷ ss) k) x.vars x.scope []
        fits ss k f =
            subst (λ (z : List Todo). Fits p b z x.vars x.scope [])
            (sym ((acts_are.stmts (length x.vars) x.next ss k).local fixed t n e))
            (one.fits _ [] (no_ops x.scope) (not_void w.ty (not_void_below p w.scope w.ty v.ty below))
            (rest (stmts_acts (suc (length x.vars)) (suc x.next) ss k)
            (subst (λ (i : ℕ). Fits p b (stmts_acts i (suc x.next) ss k) (x.vars ++ v ∷ [])
            (var_bind v ∷ x.scope) []) long f)))

      behind : (u : Ty) → Means p (OfType (site_here (here b x)) t) (Ok u) → Gives p
          (local_with b x n e (var n.name x.next fixed (declared_type (site_here (here b x)) u))) (Ok y)
          → StmtGoes p b (stmt.Local fixed t n e) x y
      behind u m g =
          let v : Var = var n.name x.next fixed (declared_type (site_here (here b x)) u) in
          let c = then_came (typed b x e x.scope) _ y g in
          let o = answered p b its (Below p c.first.scope c.first.ty v.ty) c.then.0 _
          (with_local x v) y c.then.1 c.then.2 in
          let one = its.exprs x.vars e (local_named p fixed t n e here_formed) x.scope c.first known.scope c.gave in
          subst (StmtGoes p b (stmt.Local fixed t n e) x) (sym o.1)
          (goes v refl (below_limit x y v o.1 few)
          (formed_as_given (scope_of site) u (type_formed p _ _ t u m)) (record {
            given = u;
            resolved = m;
            normal =
                (type_subst_is (scope_of site) same_path u (declared_type site u)).1 refl;
          }) c.first one o.0)
