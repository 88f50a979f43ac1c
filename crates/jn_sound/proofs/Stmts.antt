-- Statements fit: their fresh paths are gone behind them.
use Rattle.std.proofs.Common.{◌≡◌, ℕ, List, [], ◌∷◌, length, take, Option, Some, None, Bool, true, false, ◌⊎◌, inl, inr, refl, sym, ap, ◌∙◌, subst, Contains}
use Rattle.std.specs.Prelude.{◌||◌, not, Result, Ok, Err, slice_get}
use Rattle.jn_base.specs.declared.tree.Place.{Place}
use Rattle.jn_base.specs.declared.tree.Program.{Program}
use Rattle.jn_base.specs.declared.tree.Expr.{Expr}
use Rattle.jn_base.specs.declared.tree.Stmt.{Stmt, roll-Stmt}
use Rattle.jn_base.specs.declared.tree.Stmt.TheOpen.{Stmt-F}
use Rattle.jn_base.specs.declared.tree.Stmt.TheFolds.{map-Stmt, fold-roll-Stmt}
use Rattle.jn_base.specs.declared.tree.Stmt.TheVariants as stmt
use Rattle.jn_base.specs.declared.tree.Text.{Text}
use Rattle.jn_base.specs.declared.types.Ty.{Ty}
use Rattle.jn_base.specs.declared.types.Ty.TheVariants as ty
use Rattle.jn_base.specs.declared.names.Var.{Var}
use Rattle.jn_base.specs.declared.refusal.Refusal.{Refusal}
use Rattle.jn_base.specs.Scopes.{Scope}
use Rattle.jn_sem.specs.Acts.{Todo, todo, Print, expr_does, acts, stmts_acts}
use Rattle.jn_sem.specs.Below.{Below}
use Rattle.jn_sem.proofs.ActLaws.{acts_are}
use Rattle.jn_rules.specs.Plans.{Plan, done, wants}
use Rattle.jn_rules.specs.Questions.{Gives, Answers}
use Rattle.jn_rules.specs.Exprs.{Typed, is_int, is_bool}
use Rattle.jn_rules.specs.Stmts.{In, Before, typed, is_void, stmt_types, stops, stops_step}
use Rattle.jn_rules.proofs.FormLaws.{forms_are}
use Rattle.jn_rules.proofs.PlanLaws.{then_came, wanted}
use Rattle.jn_rule_laws.proofs.Behind.{same_before}
use Rattle.jn_sound.specs.Takes.{Opd, opd, same, wider, print_number, print_truth, print_text}
use Rattle.jn_sound.specs.Fit.{Fits, acts as act, moves, narrows, return, leave, Narrowed, none as narrow_none, dropped, kept}
use Rattle.jn_base.proofs.FormEquations.{at_do, at_return, at_print}
use Rattle.jn_base.proofs.NameTests.{first as in_first}
use Rattle.jn_body_laws.specs.BodyForms.{TermsNamed, IsCallForm, Use, Calls, Prints}
use Rattle.jn_body_laws.proofs.ListedForms.{uses_rolled}
use Rattle.jn_sound.specs.KnownScopes.{here_in, StmtKnown}
use Rattle.jn_sound.specs.Tree.{Fresher, none as fresh_none, more as fresh_more, GoesTo, as_they_are, CallGoes}
use Rattle.jn_sound.specs.Stmts.{BodyKnown, StmtGoes, StmtFits}
use Rattle.jn_sound.proofs.Scopes.{fits_grown, grown_of, no_ops}
use Rattle.jn_sound.proofs.RuledForms.{not_void_below}
use Rattle.jn_sound.proofs.CallsFit.{not_void}

-- ---- the end of a statement

pub narrowed_itself : (s : Scope) → Narrowed s s
narrowed_itself [] = narrow_none
narrowed_itself (b ∷ s) = kept (record {
  path = refl;
  atoms = refl;
  masks = λ i m. m;
  kind = refl;
  plain = λ e.
      refl;
}) (narrowed_itself s)

pub narrowed_fresh : {s t : Scope} → Fresher s t → Narrowed t s
narrowed_fresh {s = s} fresh_none = narrowed_itself s
narrowed_fresh (fresh_more l g) = dropped (narrowed_fresh g)

pub take_all : (vs : List Var) → vs ≡ take (length vs) vs
take_all [] = refl
take_all (v ∷ vs) = ap (λ (ws : List Var). v ∷ ws) (take_all vs)

pub ended : {p : Program} {b : In} {k : List Todo} {t : Scope} (x : Before) (ops : List Opd) → StmtKnown p b x →
    Fresher x.scope t → Fits p b k x.vars x.scope [] → Fits p b k x.vars t ops
ended x ops known g f = narrows (take_all x.vars) known.params (narrowed_fresh g) known.scope.scope.binds known.covers f

-- ---- what stops

pub stops_by : (f : Stmt-F Stmt) (s : Stmt) → roll-Stmt f ≡ s → stops s ≡ stops_step (map-Stmt Stmt Bool stops f)
stops_by f s e = ap stops (sym e) ∙ fold-roll-Stmt Bool stops_step f

-- what comes behind a statement that doesn't stop fits
pub passed : {F : Type 0} (f : Stmt-F Stmt) (s : Stmt) → roll-Stmt f ≡ s → stops_step
    (map-Stmt Stmt Bool stops f) ≡ false → (stops s ≡ true) ⊎ F → F
passed f s e n (inl w) = absurd (no (sym (stops_by f s e ∙ n) ∙ w)) where
  no : false ≡ true → ⊥
  no e = cc
passed f s e n (inr w) = w

module _ (p : Program) (b : In) (its : BodyKnown p b) where
  -- the statement s leaves all as it was, and has these acts
  stays : (s : Stmt) (x y : Before) → StmtKnown p b x → y ≡ x
      → ((ss : List Stmt) (k : List Todo) → (stops s ≡ true) ⊎ Fits p b
      (stmts_acts (length x.vars) x.next ss k) x.vars x.scope []
      → Fits p b (stmts_acts (length x.vars) x.next (s ∷ ss) k) x.vars x.scope []) → StmtGoes p b s x y
  stays s x y known e f = subst (StmtGoes p b s x) (sym e) (record { known = known; fits = f })

  pub asked : (s : Stmt) (x y : Before) (z : Plan Before) → stmt_types b s x ≡ z → Gives p (stmt_types b s x) (Ok y) →
      Gives p z (Ok y)
  asked s x y z is g = subst (λ (w : Plan Before). Gives p w (Ok y)) is g

  -- ---- printing

  printed : (n : ℕ) (vs : List Var) (u : Ty) (q : Option ℕ) (s : Scope) (k : List Todo) (ops : List Opd) →
      n ≡ length vs → (is_int u || is_bool u) ≡ true → Fits p b k vs s ops
      → Fits p b (todo n Print ∷ k) vs s (opd u q ∷ ops)
  printed n vs ty.Int q s k ops e w f = act e (print_number q) f
  printed n vs ty.Bool q s k ops e w f = act e (print_truth q) f
  printed n vs ty.Null q s k ops e w f = cc
  printed n vs ty.Void q s k ops e w f = cc
  printed n vs (ty.Class xs m) q s k ops e w f = cc

  printed_kept : (u : Ty) → (is_int u || is_bool u) ≡ true → is_void u ≡ false
  printed_kept ty.Int w = refl
  printed_kept ty.Bool w = refl
  printed_kept ty.Null w = refl
  printed_kept ty.Void w = cc
  printed_kept (ty.Class xs m) w = refl

  pub prints : (e : Expr) (at : Place) → StmtFits p b (stmt.Print e at)
  prints e at x y known few inside g =
      let c = then_came (typed b x e x.scope) _ y
      (asked (stmt.Print e at) x y _ ((forms_are.stmts b x).prints e at) g) in
      let w = wanted (is_int c.first.ty || is_bool c.first.ty) _ _ y c.then in
      let one = its.exprs x.vars e (subst TermsNamed (at_print e at) (its.formed (stmt.Print e at) inside).terms)
      x.scope c.first known.scope c.gave in
      stays (stmt.Print e at) x y known (same_before x y w.then)
      (λ ss k f. goes c.first w.test one ss k
      (passed (Stmt-F.Print e at) (stmt.Print e at) (stmt.rolls-Print e at) refl f)) where
        goes : (t : Typed) → (is_int t.ty || is_bool t.ty) ≡ true → GoesTo p b (here_in b x.vars)
            (acts (length x.vars) e) x.scope as_they_are t
            → (ss : List Stmt) (k : List Todo) → Fits p b (stmts_acts (length x.vars) x.next ss k) x.vars x.scope [] →
            Fits p b (stmts_acts (length x.vars) x.next (stmt.Print e at ∷ ss) k) x.vars x.scope []
        goes t w one ss k f =
            subst (λ (z : List Todo). Fits p b z x.vars x.scope [])
            (sym ((acts_are.stmts (length x.vars) x.next ss k).prints e at))
            (one.fits _ [] (no_ops x.scope) (printed_kept t.ty w)
            (printed (length x.vars) x.vars t.ty t.path t.scope _ [] refl w (ended x [] known one.grown f)))

  pub prints_text : (t : ℕ) (at : Place) → StmtFits p b (stmt.PrintText t at)
  prints_text t at x y known few inside g = text ((its.formed (stmt.PrintText t at) inside).forms (Prints t)
      (subst (λ (us : List Use). Contains us (Prints t))
      (sym (uses_rolled _ _ (stmt.rolls-PrintText t at))) (in_first (Prints t) []))) where
        text : (u : Text) × (slice_get p.texts t ≡ Some u) → StmtGoes p b (stmt.PrintText t at) x y
        text u =
            stays (stmt.PrintText t at) x y known
            (same_before x y (asked (stmt.PrintText t at) x y _ ((forms_are.stmts b x).prints_text t at) g))
            (λ ss k f. subst (λ (z : List Todo). Fits p b z x.vars x.scope [])
            (sym ((acts_are.stmts (length x.vars) x.next ss k).prints_text t at))
            (act refl (print_text t u.0 u.1) (passed (Stmt-F.PrintText t at) (stmt.PrintText t at)
            (stmt.rolls-PrintText t at) refl f)))

  -- ---- a call as a statement: its value isn't kept

  pub calls : (e : Expr) → StmtFits p b (stmt.Do e)
  calls e x y known few inside g =
      let c = then_came (typed b x e x.scope) _ y (asked (stmt.Do e) x y _ ((forms_are.stmts b x).call e) g) in
      let here = its.formed (stmt.Do e) inside in
      let form : IsCallForm e = here.forms (Calls e) (subst (λ (us : List Use). Contains us (Calls e))
      (sym (uses_rolled _ _ (stmt.rolls-Do e))) (in_first (Calls e) [])) in
      let one = its.calls x.vars e (subst TermsNamed (at_do e) here.terms) form x.scope c.first known.scope c.gave in
      stays (stmt.Do e) x y known (same_before x y c.then)
      (λ ss k f. goes c.first one ss k (passed (Stmt-F.Do e) (stmt.Do e) (stmt.rolls-Do e) refl f)) where
        goes : (t : Typed) → CallGoes p b (here_in b x.vars) (λ keeps. expr_does e keeps (length x.vars)) x.scope
            as_they_are t → (ss : List Stmt) (k : List Todo)
            → Fits p b (stmts_acts (length x.vars) x.next ss k) x.vars x.scope []
            → Fits p b (stmts_acts (length x.vars) x.next (stmt.Do e ∷ ss) k) x.vars x.scope []
        goes t one ss k f =
            subst (λ (z : List Todo). Fits p b z x.vars x.scope [])
            (sym ((acts_are.stmts (length x.vars) x.next ss k).call e))
            (one.fits false _ [] (no_ops x.scope) (λ v. refl) (ended x [] known one.grown f))

  -- ---- return

  pub not_true : (c : Bool) → not c ≡ true → c ≡ false
  not_true true e = cc
  not_true false e = refl

  pub answered : (T : Type 0) (ok : Bool) (r : Refusal) (x y : Before) → Answers T ok → Gives p (wants ok r (done x))
      (Ok y) → T × (y ≡ x)
  answered T true r x y a g = (a, same_before x y g)
  answered T false r x y a g = absurd (no g) where
    no : (let a : Result Before Refusal = Ok y in let c : Result Before Refusal = Err r in a ≡ c) → ⊥
    no e = cc

  returns_one : (e : Expr) (at : Place) → StmtFits p b (stmt.Return (Some e) at)
  returns_one e at x y known few inside g =
      let c = then_came (typed b x e x.scope) _ y
      (asked (stmt.Return (Some e) at) x y _ ((forms_are.stmts b x).returns (Some e) at) g) in
      let w = wanted (not (is_void b.result)) _ _ y c.then in
      let a = answered (Below p c.first.scope c.first.ty b.result) w.then.0 _ x y w.then.1 w.then.2 in
      let one = its.exprs x.vars e
      (subst TermsNamed (at_return (Some e) at) (its.formed (stmt.Return (Some e) at) inside).terms)
      x.scope c.first known.scope c.gave in
      stays (stmt.Return (Some e) at) x y known a.1
      (λ ss k f. goes c.first (not_true (is_void b.result) w.test) a.0 one ss k) where
        goes : (t : Typed) → is_void b.result ≡ false → Below p t.scope t.ty b.result → GoesTo p b (here_in b x.vars)
            (acts (length x.vars) e) x.scope as_they_are t
            → (ss : List Stmt) (k : List Todo) → Fits p b
            (stmts_acts (length x.vars) x.next (stmt.Return (Some e) at ∷ ss) k) x.vars x.scope []
        goes t v below one ss k =
            subst (λ (z : List Todo). Fits p b z x.vars x.scope [])
            (sym ((acts_are.stmts (length x.vars) x.next ss k).returns e at))
            (one.fits _ [] (no_ops x.scope) (not_void t.ty (not_void_below p t.scope t.ty b.result below))
            (moves (wider t.ty b.result t.path below
            (fits_grown (grown_of one.grown) one.known.scope.scope.binds known.result.fits) same)
            (return t.path refl v)))

  returns_none : (at : Place) → StmtFits p b (stmt.Return None at)
  returns_none at x y known few inside g =
      let w = wanted (is_void b.result) _ _ y
      (asked (stmt.Return None at) x y _ ((forms_are.stmts b x).returns None at) g) in
      stays (stmt.Return None at) x y known (same_before x y w.then)
      (λ ss k f. subst (λ (z : List Todo). Fits p b z x.vars x.scope [])
      (sym ((acts_are.stmts (length x.vars) x.next ss k).returns_none at)) (leave refl w.test))

  pub returns : (e : Option Expr) (at : Place) → StmtFits p b (stmt.Return e at)
  returns None at = returns_none at
  returns (Some e) at = returns_one e at
