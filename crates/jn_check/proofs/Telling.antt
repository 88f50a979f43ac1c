-- What is told of a statement by what is told of its parts.
use Rattle.std.proofs.Common.{◌≡◌, ℕ, List, Bool, true, false, Result, Ok, Err, sym, ap, ◌∙◌, subst}
use Rattle.jn_base.specs.declared.tree.Method.{Method}
use Rattle.jn_base.specs.declared.tree.Expr.{Expr}
use Rattle.jn_base.specs.declared.tree.Program.{Program}
use Rattle.jn_base.specs.declared.types.Ty.{Ty}
use Rattle.jn_base.specs.declared.names.Var.{Var}
use Rattle.jn_base.specs.declared.names.Resolved.{Resolved}
use Rattle.jn_base.specs.declared.refusal.Refusal.{Refusal}
use Rattle.jn_base.specs.Paths.{Path}
use Rattle.jn_base.specs.Scopes.{Scope}
use Rattle.jn_heads.specs.declared.fault.CheckFault.{CheckFault}
use Rattle.jn_heads.specs.declared.fault.CheckFault.TheVariants.{Refused, Memory}
use Rattle.jn_rules.specs.Plans.{IsBelow, Plan, done, ask, then_do, wants, refuse}
use Rattle.jn_rules.specs.Questions.{Means}
use Rattle.jn_rules.specs.Exprs.{Here, Typed, expr_types, mismatch}
use Rattle.jn_rules.specs.Stmts.{Before, typed_below}
use Rattle.jn_rules.proofs.PlanLaws.{then_refuses}
use Rattle.jn_expr.specs.Envs.{here_at}
use Rattle.jn_expr.specs.Told.{Went, PlanTold, FaultIs}
use Rattle.jn_expr.specs.Steps.{Leads, LeadsTold}
use Rattle.jn_expr.proofs.Leading.{leads_here, leads_ask, leads_then, leads_want, leads_done}
use Rattle.jn_check.specs.States.{in_at, before_in}

-- ---- refusals

-- a plan before another one was refused
pub fault_first : {A X B C : Type 0} (p : Program) (x : Plan X) (go : X → Plan A) (given : B → X) (left : C → Plan A) (a b c d : Resolved) (f : CheckFault)
    → PlanTold p x given a b (Err f) → LeadsTold p (then_do x go) left c d (Err f)
fault_first p x go given left a b c d (Refused r) g = then_refuses p x go r g
fault_first p x go given left a b c d Memory g = tt

-- a test failed
pub fault_wanted : {A B : Type 0} {p : Program} {whole : Plan A} {a b : Resolved} (left : B → Plan A) (later : Resolved) (t : Bool) (r : Refusal) (rest : Plan A) → t ≡ false
    → Leads p whole (wants t r rest) a b → (f : CheckFault) → FaultIs f r → LeadsTold p whole left a later (Err f)
fault_wanted left later true r rest e l f h = cc
fault_wanted left later false r rest e l (Refused q) h = l.gives q (ap Err h)
fault_wanted left later false r rest e l Memory h = tt

-- it is refused
pub fault_refused : {A B : Type 0} {p : Program} {whole : Plan A} {a b : Resolved} (left : B → Plan A) (later : Resolved) (r : Refusal)
    → Leads p whole (refuse r) a b → (f : CheckFault) → FaultIs f r → LeadsTold p whole left a later (Err f)
fault_refused left later r l (Refused q) h = l.gives q (ap Err h)
fault_refused left later r l Memory h = tt

-- what leads on to nothing more, as what is told; and a fault in either form
pub told_done : {A B : Type 0} (p : Program) (whole : Plan A) (show : B → A) (a c : Resolved) (x : B) (y : A) → show x ≡ y → Leads p whole (done y) a c → PlanTold p whole show a c (Ok x)
told_done {A} p whole show a c x y e l = subst (λ (z : A). Went p whole z a c) (sym e) (leads_done l)

pub told_fault : {A B C : Type 0} (p : Program) (whole : Plan A) (left : B → Plan A) (show : C → A) (a b c : Resolved) (f : CheckFault) → LeadsTold p whole left a b (Err f) → PlanTold p whole show a c (Err f)
told_fault p whole left show a b c (Refused r) g = g
told_fault p whole left show a b c Memory g = tt

pub leads_on : {A B C : Type 0} {p : Program} {whole rest : Plan A} {a b : Resolved} (left : B → Plan A) (other : C → Plan A) (c d : Resolved) → Leads p whole rest a b → (f : CheckFault)
    → LeadsTold p rest left b c (Err f) → LeadsTold p whole other a d (Err f)
leads_on left other c d l (Refused r) g = l.gives r g
leads_on left other c d l Memory g = tt

-- ---- expressions

module _ (p : Program) (h : Here) (e : Expr) (s : Scope) (a : Resolved) where
  pub alone_went : (go : Ty → Plan Before) (y : Typed) (b : Resolved) → Went p (expr_types h e s) y a b
      → Leads p (then_do (expr_types h e s) (λ z. go z.ty)) (go y.ty) a b
  alone_went go y b w = leads_then (expr_types h e s) (λ z. go z.ty) (leads_here (then_do (expr_types h e s) (λ z. go z.ty)) a) w

module _ (p : Program) (C : Path) (m : Method) (t : Ty) (vars : List Var) (s0 : Scope) (n : ℕ) (e : Expr) (s : Scope) (u : Ty) (go : Plan Before) (a : Resolved) where
  abbrev pub below_go : Typed → Plan Before
  below_go y = ask (IsBelow y.scope y.ty u) (λ ok. wants ok (mismatch (here_at C m vars) e.at) go)

  abbrev whole_below : Plan Before
  whole_below = typed_below (in_at C m t) (before_in vars s0 n) e s u go

  asked : (y : Typed) (b : Resolved) → Went p (expr_types (here_at C m vars) e s) y a b → (ok : Bool) → Means p (IsBelow y.scope y.ty u) ok
      → Leads p whole_below (wants ok (mismatch (here_at C m vars) e.at) go) a b
  asked y b w ok k = leads_ask (leads_then (expr_types (here_at C m vars) e s) below_go (leads_here whole_below a) w) ok k

  pub below_went : (y : Typed) (b : Resolved) → Went p (expr_types (here_at C m vars) e s) y a b → (ok : Bool) → Means p (IsBelow y.scope y.ty u) ok → ok ≡ true
      → Leads p whole_below go a b
  below_went y b w ok k i = leads_want ok (mismatch (here_at C m vars) e.at) i (asked y b w ok k)

  pub not_below : {B : Type 0} (left : B → Plan Before) (y : Typed) (b later : Resolved) → Went p (expr_types (here_at C m vars) e s) y a b → (ok : Bool)
      → Means p (IsBelow y.scope y.ty u) ok → ok ≡ false → (f : CheckFault) → FaultIs f (mismatch (here_at C m vars) e.at) → LeadsTold p whole_below left a later (Err f)
  not_below left y b later w ok k i f h = fault_wanted left later ok (mismatch (here_at C m vars) e.at) go i (asked y b w ok k) f h

-- the same with what is equal
pub below_as : (C : Path) (m : Method) (t : Ty) (vars ws : List Var) (s0 : Scope) (n : ℕ) (e : Expr) (s r : Scope) (u v : Ty) (go : Plan Before) → ws ≡ vars → r ≡ s → v ≡ u
    → typed_below (in_at C m t) (before_in ws s0 n) e r v go ≡ typed_below (in_at C m t) (before_in vars s0 n) e s u go
below_as C m t vars ws s0 n e s r u v go i j k =
    ap (λ (xs : List Var). typed_below (in_at C m t) (before_in xs s0 n) e r v go) i
    ∙ (ap (λ (x : Scope). typed_below (in_at C m t) (before_in vars s0 n) e x v go) j
    ∙ ap (λ (x : Ty). typed_below (in_at C m t) (before_in vars s0 n) e s x go) k)

pub leads_as : {A B : Type 0} (p : Program) (x y : Plan A) (left : B → Plan A) (a b : Resolved) (r : Result B CheckFault) → x ≡ y → LeadsTold p x left a b r → LeadsTold p y left a b r
leads_as {A} p x y left a b r e h = subst (λ (z : Plan A). LeadsTold p z left a b r) e h

pub told_as : {A B : Type 0} (p : Program) (x y : Plan A) (show : B → A) (a b : Resolved) (r : Result B CheckFault) → x ≡ y → PlanTold p y show a b r → PlanTold p x show a b r
told_as {A} p x y show a b r e h = subst (λ (z : Plan A). PlanTold p z show a b r) (sym e) h
