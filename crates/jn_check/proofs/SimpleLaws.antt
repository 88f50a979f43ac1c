-- Conditions, calls, `print` and `return`.
use Rattle.std.proofs.Common.{◌≡◌, Bool, true, false, not, Option, Some, None, Result, Ok, Err, sym, ap, subst}
use Rattle.std.specs.Prelude.{OnOk}
use Rattle.jn_base.specs.declared.tree.Place.{Place}
use Rattle.jn_base.specs.declared.tree.Expr.{Expr}
use Rattle.jn_base.specs.declared.tree.Program.{Program}
use Rattle.jn_base.specs.declared.types.Ty.{Ty}
use Rattle.jn_base.specs.declared.names.Resolved.{Resolved}
use Rattle.jn_heads.specs.declared.fault.CheckFault.{CheckFault}
use Rattle.jn_rules.specs.Plans.{IsBelow, Plan, done, refuse, ask, then_do, wants}
use Rattle.jn_rules.specs.Exprs.{mismatch}
use Rattle.jn_rules.specs.Stmts.{Before, In, here, typed, typed_below, return_typed, is_void}
use Rattle.jn_expr.specs.Told.{Went, PlanTold, FaultIs}
use Rattle.jn_expr.specs.Steps.{Leads, LeadsTold}
use Rattle.jn_expr.proofs.Leading.{leads_here, leads_want, leads_done}
use Rattle.jn_check.proofs.Telling.{fault_wanted, told_fault}

module _ (p : Program) (b : In) (x : Before) (e : Expr) (a : Resolved) where
  -- the test behind an expression alone
  pub test_held : (go : Plan Before) (t : Bool) (u : Ty) (whole : Plan Before) (c : Resolved) → Leads p whole (wants t (mismatch (here b x) e.at) go) a c → t ≡ true → Leads p whole go a c
  test_held go t u whole c l i = leads_want t (mismatch (here b x) e.at) i l

  pub test_failed : {B : Type 0} (left : B → Plan Before) (go : Plan Before) (t : Bool) (whole : Plan Before) (c later : Resolved) → Leads p whole (wants t (mismatch (here b x) e.at) go) a c
      → t ≡ false → (f : CheckFault) → FaultIs f (mismatch (here b x) e.at) → LeadsTold p whole left a later (Err f)
  test_failed left go t whole c later l i f j = fault_wanted left later t (mismatch (here b x) e.at) go i l f j

  -- `return e;`: where there is a result, it is an expression below that; else it is refused behind e
  pub return_below : (at : Place) → is_void b.result ≡ false → return_typed b x (Some e) at ≡ typed_below b x e x.scope b.result (done x)
  return_below at i =
      ap (λ (v : Bool). then_do (typed b x e x.scope) (λ y. wants (not v) (mismatch (here b x) at) (ask (IsBelow y.scope y.ty b.result) (λ ok. wants ok (mismatch (here b x) e.at) (done x))))) i

  pub return_vain : (at : Place) → is_void b.result ≡ true → return_typed b x (Some e) at ≡ then_do (typed b x e x.scope) (λ y. refuse (mismatch (here b x) at))
  return_vain at i =
      ap (λ (v : Bool). then_do (typed b x e x.scope) (λ y. wants (not v) (mismatch (here b x) at) (ask (IsBelow y.scope y.ty b.result) (λ ok. wants ok (mismatch (here b x) e.at) (done x))))) i

-- what never is Ok
pub never_ok : (X : Type 0) (r : Result (Unit {0}) CheckFault) → OnOk r ⊥ → OnOk r X
never_ok X (Ok u) h = absurd h
never_ok X (Err f) h = tt

-- a statement that leaves all as it is
pub kept_went : (p : Program) (whole : Plan Before) (x y : Before) (a c d : Resolved) → Leads p whole (done x) a c → d ≡ c → y ≡ x → Went p whole y a d
kept_went p whole x y a c d l e i = subst (λ (q : Resolved). Went p whole y a q) (sym e) (subst (λ (q : Before). Went p whole q a c) (sym i) (leads_done l))

-- `return;`: refused where there is a result
module _ (p : Program) (b : In) (x : Before) (at : Place) (a : Resolved) where
  pub return_none : (o : Option Expr) → o ≡ None → is_void b.result ≡ true → Went p (return_typed b x o at) x a a
  return_none o e i =
      subst (λ (k : Option Expr). Went p (return_typed b x k at) x a a) (sym e)
      (leads_done (leads_want (is_void b.result) (mismatch (here b x) at) i (leads_here (return_typed b x None at) a)))

  pub return_refused : {B : Type 0} (show : B → Before) (o : Option Expr) → o ≡ None → is_void b.result ≡ false → (f : CheckFault) → FaultIs f (mismatch (here b x) at)
      → PlanTold p (return_typed b x o at) show a a (Err f)
  return_refused show o e i f j =
      subst (λ (k : Option Expr). PlanTold p (return_typed b x k at) show a a (Err f)) (sym e)
      (told_fault p (return_typed b x None at) (λ (u : Unit {0}). done x) show a a a f
      (fault_wanted (λ (u : Unit {0}). done x) a (is_void b.result) (mismatch (here b x) at) (done x) i (leads_here (return_typed b x None at) a) f j))
