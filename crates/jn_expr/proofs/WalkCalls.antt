-- Calls, with their arguments.
use Rattle.std.proofs.Common.{◌≡◌, ◌+◌, ◌-◌, ℕ, List, [], ◌∷◌, ◌++◌, length, map, slice_get, Option, Some, None, IfOk, OnOk, Result, Ok, Err, refl, sym, ap, ◌∙◌, subst, arith}
use Rattle.std.proofs.lemmas.List.{length-map}
use Rattle.jn_base.specs.declared.tree.Name.{Name}
use Rattle.jn_base.specs.declared.tree.Named.{Named}
use Rattle.jn_base.specs.declared.tree.Place.{Place}
use Rattle.jn_base.specs.declared.tree.Method.{Method}
use Rattle.jn_base.specs.declared.tree.Expr.{Expr}
use Rattle.jn_base.specs.declared.tree.Term.{Term}
use Rattle.jn_base.specs.declared.tree.Program.{Program}
use Rattle.jn_base.specs.declared.names.Resolved.{Resolved}
use Rattle.jn_base.specs.declared.names.Var.{Var}
use Rattle.jn_base.specs.declared.types.Ty.{Ty}
use Rattle.jn_base.specs.Paths.{Path}
use Rattle.jn_base.specs.Scopes.{Scope as TypeScope}
use Rattle.jn_heads.specs.declared.fault.CheckFault.{CheckFault}
use Rattle.jn_heads.specs.declared.fault.CheckFault.TheVariants.{Refused, Memory}
use Rattle.jn_heads.specs.declared.params.Header.{Header as CodeHeader}
use Rattle.jn_heads.specs.Params.{header_in}
use Rattle.jn_intern.specs.declared.scope.Scope.{Scope}
use Rattle.jn_intern.specs.Pools.{InPool, shown, scope_in, Keeps}
use Rattle.jn_rules.specs.Plans.{Plan, then_do}
use Rattle.jn_rules.specs.Headers.{Header}
use Rattle.jn_rules.specs.Exprs.{Here, Typed, Typing, Passed, expr_types, args_typed, gives, replaced_paths, result_gives}
use Rattle.jn_rules.specs.Forms.{typed_expr, typed_args}
use Rattle.jn_expr.specs.declared.env.Call.{Call}
use Rattle.jn_expr.specs.declared.env.Value.{Value}
use Rattle.jn_expr.specs.Envs.{IsScope, here_at}
use Rattle.jn_expr.specs.Passing.{Grows}
use Rattle.jn_expr.specs.Told.{Went, PlanTold}
use Rattle.jn_expr.specs.Values.{typed_in}
use Rattle.jn_expr.specs.Steps.{Leads, LeadsTold, IsCall, passed_in}
use Rattle.jn_expr.specs.Calling.{called, arg_left, IsPassed}
use Rattle.jn_expr.specs.Making.{made_call}
use Rattle.jn_expr.proofs.Leading.{leads_here, leads_then, leads_told, leads_fault}
use Rattle.jn_expr.proofs.Scopes.{grows_more}

pub args_count : (h : Here) (es : List Expr) → length (typed_args h es) ≡ length es
args_count h es = length-map es (typed_expr h)

-- ---- a call to which arguments were passed

pub passed_none : (pool : List Ty) (s : Scope) (c : Call) → IsScope pool s → (g : Grows s s) → IsPassed pool s s c c
passed_none pool s c i g = record { header = refl; from = refl; scope = i; grows = g }

pub passed_more : {pool pool2 : List Ty} {a b c : Scope} {x y z : Call} → IsPassed pool a b x y → IsPassed pool2 b c y z → IsPassed pool2 a c x z
passed_more f g = record { header = g.header ∙ f.header; from = g.from ∙ f.from; scope = g.scope; grows = grows_more f.grows g.grows }

module _ (old new : List Ty) (x y : Call) (c : IsCall old x) (k : Keeps old new) (header : y.header ≡ x.header) (from : y.from.items ≡ x.from.items) where
  pub call_stays : IsCall new y
  call_stays = record {
    result = subst (λ (h : CodeHeader). InPool new h.result) (sym header) (k.has x.header.result c.result);
    from = from ∙ (c.from ∙ ap (λ (h : CodeHeader). replaced_paths h.at.vars.list) (sym header));
  }

  pub header_stays : header_in new y.header ≡ header_in old x.header
  header_stays =
      ap (λ (h : CodeHeader). header_in new h) header
      ∙ ap (λ (t : Ty). let r : Header = record { vars = x.header.at.vars.list; result = t } in r) (k.shows x.header.result c.result)

-- ---- the arguments of a call, and what stands behind them

module _ (p : Program) (Q : Path) (m : Method) (args : List Expr) (pool : List Ty) (call : Call) (c : IsCall pool call) (vars : List Var) (s : TypeScope) (m0 m1 m2 : Resolved)
    (whole : Plan Typed) (go : Passed → Plan Typed) where
  -- in the scope s1 with the variables vs, for the paths `from`
  abbrev args_at : List ℕ → List Var → TypeScope → Plan Passed
  args_at from vs s1 = args_typed (here_at Q m vs) from call.header.at.vars.list (typed_args (here_at Q m vs) args) call.paths.items s1

  abbrev args_plan : Plan Passed
  args_plan = args_at (replaced_paths call.header.at.vars.list) vars s

  module _ (vars1 : List Var) (s1 : TypeScope) (ev : vars1 ≡ vars) (es : s1 ≡ s) (l : Leads p whole (then_do args_plan go) m0 m1) where
    moved_args : {B : Type 0} (given : B → Passed) (o : Result B CheckFault) → PlanTold p (args_at call.from.items vars1 s1) given m1 m2 o → PlanTold p args_plan given m1 m2 o
    moved_args given o g =
        subst (λ (from : List ℕ). PlanTold p (args_at from vars s) given m1 m2 o) c.from
        (subst (λ (vs : List Var). PlanTold p (args_at call.from.items vs s) given m1 m2 o) ev
        (subst (λ (x : TypeScope). PlanTold p (args_at call.from.items vars1 x) given m1 m2 o) es g))

    pub args_refused : {B D : Type 0} (given : D → Passed) (show : B → Typed) (later : Resolved) (f : CheckFault) → PlanTold p (args_at call.from.items vars1 s1) given m1 m2 (Err f)
        → PlanTold p whole show m0 later (Err f)
    args_refused given show later f g = leads_fault given show args_plan go m2 later l f (moved_args given (Err f) g)

    pub args_went : (x : Passed) → Went p (args_at call.from.items vars1 s1) x m1 m2 → Leads p whole (go x) m0 m2
    args_went x w = leads_then args_plan go l (moved_args {B = Unit {0}} (λ u. x) (Ok tt) w)

pub result_at : {B : Type 0} (p : Program) (c d : Header) (x y : Passed) (show : B → Typed) (m1 m2 : Resolved) (o : Result B CheckFault) → c ≡ d → x ≡ y
    → PlanTold p (result_gives c x) show m1 m2 o → PlanTold p (result_gives d y) show m1 m2 o
result_at p c d x y show m1 m2 o e f g =
    subst (λ (z : Passed). PlanTold p (result_gives d z) show m1 m2 o) f (subst (λ (k : Header). PlanTold p (result_gives k x) show m1 m2 o) e g)

-- ---- a part that was begun, and then the rest

module _ {A B X : Type 0} (p : Program) (whole : Plan A) (left : X → Plan A) (show : B → A) (m0 m1 m2 : Resolved) where
  pub begun_fault : (f : CheckFault) → LeadsTold p whole left m0 m1 (Err f) → PlanTold p whole show m0 m2 (Err f)
  begun_fault (Refused r) g = g
  begun_fault Memory g = tt

  pub begun_told : (x : X) (go : List Var → Plan A) (vars1 vars : List Var) (o : Result B CheckFault) → vars1 ≡ vars → left x ≡ go vars
      → Leads p whole (left x) m0 m1 → PlanTold p (go vars1) show m1 m2 o → PlanTold p whole show m0 m2 o
  begun_told x go vars1 vars o e i l g =
      leads_told show m2 (subst (λ (y : Plan A). Leads p whole y m0 m1) i l) o (subst (λ (vs : List Var). PlanTold p (go vs) show m1 m2 o) e g)

-- ---- the object that was made

pub made_none : (p : Program) (h : Here) (pool : List Ty) (scope : Scope) (es : List (Expr × Typing)) (v : Value) (c : Option Call) {B : Type 0} (show : B → Typed) (m0 m2 : Resolved)
    (o : Result B CheckFault) → c ≡ None → PlanTold p (gives (typed_in pool scope v)) show m0 m2 o → PlanTold p (made_call h pool scope es v c) show m0 m2 o
made_none p h pool scope es v c show m0 m2 o e g = subst (λ (x : Option Call). PlanTold p (made_call h pool scope es v x) show m0 m2 o) (sym e) g

pub made_some : (p : Program) (h : Here) (pool : List Ty) (scope : Scope) (es : List (Expr × Typing)) (v : Value) (c : Option Call) {B : Type 0} (show : B → Typed) (m0 m2 : Resolved)
    (o : Result B CheckFault) (call : Call) → c ≡ Some call → PlanTold p (made_call h pool scope es v (Some call)) show m0 m2 o
    → PlanTold p (made_call h pool scope es v c) show m0 m2 o
made_some p h pool scope es v c show m0 m2 o call e g = subst (λ (x : Option Call). PlanTold p (made_call h pool scope es v x) show m0 m2 o) (sym e) g

pub made_at : (p : Program) (old new : List Ty) (scope : Scope) (v : Value) {B : Type 0} (show : B → Typed) (m1 m2 : Resolved) (o : Result B CheckFault) → Keeps old new
    → InPool old v.ty → PlanTold p (gives (typed_in new scope v)) show m1 m2 o
    → PlanTold p (gives (record { ty = shown old v.ty; path = v.path; scope = scope_in new scope })) show m1 m2 o
made_at p old new scope v show m1 m2 o k has g =
    subst (λ (t : Ty). let x : Typed = record { ty = t; path = v.path; scope = scope_in new scope } in PlanTold p (gives x) show m1 m2 o) (k.shows v.ty has) g

-- ---- arguments, at the place of a loop

pub passed_behind : (pool : List Ty) (a b d : Scope) (x y : Call) (o : Result (Unit {0}) CheckFault) → Grows a b → OnOk o (IsPassed pool b d x y) → OnOk o (IsPassed pool a d x y)
passed_behind pool a b d x y (Ok u) g h = record { header = h.header; from = h.from; scope = h.scope; grows = grows_more g h.grows }
passed_behind pool a b d x y (Err f) g h = tt

pub one_arg_at : {B : Type 0} (p : Program) (Q : Path) (m : Method) (e : Expr) (x : Var) (to : List ℕ) (s : TypeScope) (m1 m2 : Resolved) (go : List ℕ → TypeScope → Plan Passed)
    (left : B → Plan Passed) (o : Result B CheckFault) (vars1 vars : List Var) (from1 from : List ℕ) → vars1 ≡ vars → from1 ≡ from
    → LeadsTold p (then_do (expr_types (here_at Q m vars1) e s) (λ t. arg_left (here_at Q m vars1) from1 x e.at t to go)) left m1 m2 o
    → LeadsTold p (then_do (expr_types (here_at Q m vars) e s) (λ t. arg_left (here_at Q m vars) from x e.at t to go)) left m1 m2 o
one_arg_at p Q m e x to s m1 m2 go left o vars1 vars from1 from ev ef g =
    subst (λ (fs : List ℕ). LeadsTold p (then_do (expr_types (here_at Q m vars) e s) (λ t. arg_left (here_at Q m vars) fs x e.at t to go)) left m1 m2 o) ef
    (subst (λ (vs : List Var). LeadsTold p (then_do (expr_types (here_at Q m vs) e s) (λ t. arg_left (here_at Q m vs) from1 x e.at t to go)) left m1 m2 o) ev g)

pub got_at : (h1 h : CodeHeader) (k i : ℕ) (x : Var) → h1 ≡ h → k ≡ i + 1 → slice_get h.at.vars.list i ≡ Some x → slice_get h1.at.vars.list (k - 1) ≡ Some x
got_at h1 h k i x e f g =
    ap (λ (c : CodeHeader). slice_get c.at.vars.list (k - 1)) e ∙ (ap (λ (n : ℕ). slice_get h.at.vars.list n) (less k i f) ∙ g) where
      less : (k i : ℕ) → k ≡ i + 1 → k - 1 ≡ i
      less k i f = omega (arith, f)
