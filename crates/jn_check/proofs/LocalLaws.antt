-- Locals and assignments to variables.
use Rattle.std.proofs.Common.{◌≡◌, ℕ, List, [], ◌∷◌, ◌++◌, Bool, false, not, Option, Some, None, Result, Ok, Err, refl, sym, ap, ◌∙◌, subst, arith}
use Rattle.std.specs.Prelude.{OnOk}
use Rattle.jn_base.specs.declared.tree.Name.{Name}
use Rattle.jn_base.specs.declared.tree.Named.{Named}
use Rattle.jn_base.specs.declared.tree.Method.{Method}
use Rattle.jn_base.specs.declared.tree.Expr.{Expr}
use Rattle.jn_base.specs.declared.tree.TypeTerm.{TypeTerm}
use Rattle.jn_base.specs.declared.tree.Program.{Program}
use Rattle.jn_base.specs.declared.types.Ty.{Ty}
use Rattle.jn_base.specs.declared.names.Var.{Var}
use Rattle.jn_base.specs.declared.names.Resolved.{Resolved}
use Rattle.jn_base.specs.declared.refusal.Rule.TheVariants as rule
use Rattle.jn_base.specs.Paths.{Path}
use Rattle.jn_base.specs.Scopes.{Scope}
use Rattle.jn_base.specs.Fits.{TypeFits}
use Rattle.jn_base.specs.Resolve.{var_named}
use Rattle.jn_intern.specs.declared.pool.TyId.{TyId}
use Rattle.jn_intern.specs.Pools.{InPool, Keeps, shown, scope_in}
use Rattle.jn_laws.specs.LawsOfWritten.{Shallow, site_with, TypeThere}
use Rattle.jn_sem.specs.Terms.{Site}
use Rattle.jn_sem.specs.Does.{var}
use Rattle.jn_heads.specs.declared.fault.CheckFault.{CheckFault}
use Rattle.jn_rules.specs.Plans.{VarMark, OfType, Plan, done, ask, taken}
use Rattle.jn_rules.specs.Exprs.{of_name}
use Rattle.jn_rules.specs.Stmts.{Before, In, here, with_local, local_with, local_typed, assign_typed, typed_below}
use Rattle.jn_expr.specs.declared.env.Env.{Env}
use Rattle.jn_expr.specs.Envs.{IsThere}
use Rattle.jn_expr.specs.Told.{Adds, PlanTold}
use Rattle.jn_expr.specs.Steps.{Leads, LeadsTold}
use Rattle.jn_expr.proofs.Typeds.{vars_there, found_among}
use Rattle.jn_expr.proofs.Leading.{leads_here, leads_note, leads_want, leads_leads, leads_told}
use Rattle.jn_check.specs.declared.assign.Assigned.{Assigned}
use Rattle.jn_check.specs.declared.state.Locals.{Locals}
use Rattle.jn_check.specs.States.{in_at, before_at, IsBefore, IsAfter, IsKept}
use Rattle.jn_check.specs.Storing.{AddsLocal, IsAssigned, AssignedIs}
use Rattle.jn_check.proofs.Standing.{before_kept, before_again, added_is, added_after}
use Rattle.jn_check.proofs.Telling.{told_done, told_fault}

-- ---- what stands behind two steps

-- all was kept before the last step
pub after_then : (p : Program) (C : Path) (m : Name) (old : Env) (x : Locals) (mid : Env) (z : Locals) (new : Env) (y : Locals) → mid.vars.list ≡ old.vars.list → IsKept x z
    → IsAfter p C m mid z new y → IsAfter p C m old x new y
after_then p C m old x mid z new y e k a = record {
  before = a.before;
  more = a.more;
  vars = a.vars ∙ ap (λ (vs : List Var). vs ++ a.more) e;
  binds = a.binds;
  declared = a.declared ∙ ap (λ bs. bs ++ a.binds) k.declared;
  next = omega (arith, a.next, k.next);
}

pub there_kept : (C : Path) (m : Name) (vars vs : List Var) (t u : Ty) → vs ≡ vars → u ≡ t → TypeThere (site_with C m vars) t → TypeThere (site_with C m vs) u
there_kept C m vars vs t u e f h =
    subst (λ (ws : List Var). TypeThere (site_with C m ws) u) (sym e) (subst (TypeThere (site_with C m vars)) (sym f) h)

-- ---- a local whose type is known

module _ (p : Program) (C : Path) (m : Method) (t : Ty) (n : Named) (e : Expr) (fixed : Bool) (old : Env) (x : Locals) (h : IsBefore p C m.name.name old.pool old.vars.list x) (id : TyId) (has : InPool old.pool id)
    (b : Resolved) (noted : Adds (VarMark x.next ∷ []) old.marks b) where
  abbrev pub v : Var
  v = var n.name x.next fixed (shown old.pool id)

  abbrev pub whole_with : Plan Before
  whole_with = local_with (in_at C m t) (before_at old x) n e v

  abbrev pub rest_with : Plan Before
  rest_with = typed_below (in_at C m t) (before_at old x) e (scope_in old.pool x.scope) (shown old.pool id) (done (with_local (before_at old x) v))

  -- the variable is noted, and then comes the expression
  below_leads : {B : Type 0} (left : B → Plan Before) (c : Resolved) (r : Result B CheckFault) → LeadsTold p rest_with left b c r → LeadsTold p whole_with left old.marks c r
  below_leads left c r l = leads_leads left c (leads_note (leads_here whole_with old.marks) noted) r l

  pub with_fault : (new : Env) (y : Locals) (c d : Resolved) (f : CheckFault) → LeadsTold p rest_with (λ (u : Unit {0}). done (with_local (before_at old x) v)) b c (Err f)
      → PlanTold p whole_with (λ (u : Unit {0}). before_at new y) old.marks d (Err f)
  with_fault new y c d f l =
      told_fault p whole_with (λ (u : Unit {0}). done (with_local (before_at old x) v)) (λ (u : Unit {0}). before_at new y) old.marks c d f
      (below_leads (λ (u : Unit {0}). done (with_local (before_at old x) v)) c (Err f) l)

  module _ (mid : Env) (z : Locals) (keeps : Keeps old.pool mid.pool) (vars : mid.vars.list ≡ old.vars.list) (kept : IsKept x z) (new : Env) (y : Locals)
      (a : AddsLocal mid z n.name fixed id new y) where
    same_shown : shown mid.pool id ≡ shown old.pool id
    same_shown = keeps.shows id has

    same_var : var n.name z.next fixed (shown mid.pool id) ≡ v
    same_var = ap (λ (q : ℕ). var n.name q fixed (shown mid.pool id)) kept.next ∙ ap (var n.name x.next fixed) same_shown

    same_after : before_at new y ≡ with_local (before_at old x) v
    same_after =
        added_is mid z new y n.name fixed id (keeps.has id has) a.pool a.vars a.scope a.next
        ∙ (ap (λ (w : Before). with_local w (var n.name z.next fixed (shown mid.pool id))) (before_kept p C m.name.name old x mid z h keeps vars kept)
        ∙ ap (with_local (before_at old x)) same_var)

    pub with_told : LeadsTold p rest_with (λ (u : Unit {0}). done (with_local (before_at old x) v)) b mid.marks (Ok tt)
        → PlanTold p whole_with (λ (u : Unit {0}). before_at new y) old.marks new.marks (Ok tt)
    with_told l =
        subst (λ (d : Resolved). PlanTold p whole_with (λ (u : Unit {0}). before_at new y) old.marks d (Ok tt)) (sym a.marks)
        (told_done p whole_with (λ (u : Unit {0}). before_at new y) old.marks mid.marks tt (with_local (before_at old x) v) same_after
        (below_leads (λ (u : Unit {0}). done (with_local (before_at old x) v)) mid.marks (Ok tt) l))

    pub with_after : Shallow p → TypeThere (site_with C m.name.name old.vars.list) (shown old.pool id) → IsAfter p C m.name.name old x new y
    with_after deep there =
        after_then p C m.name.name old x mid z new y vars kept
        (added_after mid z new y n.name fixed id (keeps.has id has) a.pool a.vars a.scope a.next a.declared a.room p C m.name.name
        (before_again p C m.name.name old.pool old.vars.list x h mid.pool mid.vars.list z keeps vars kept.declared kept.scope (omega (arith, kept.next))) deep
        (there_kept C m.name.name old.vars.list mid.vars.list (shown old.pool id) (shown mid.pool id) vars same_shown there))

-- ---- a whole local

module _ (p : Program) (C : Path) (m : Method) (t : Ty) (fixed : Bool) (written : TypeTerm) (n : Named) (e : Expr) (old : Env) (x : Locals) where
  abbrev pub whole_local : Plan Before
  whole_local = ask (OfType (site_with C m.name.name old.vars.list) written) (taken (local_typed (in_at C m t) (before_at old x) fixed n e))

  abbrev pub with_type : Ty → Plan Before
  with_type u = local_with (in_at C m t) (before_at old x) n e (var n.name x.next fixed u)

  pub local_fault : {B C : Type 0} (left : B → Plan Before) (show : C → Before) (c d : Resolved) (f : CheckFault) → LeadsTold p whole_local left old.marks c (Err f) → PlanTold p whole_local show old.marks d (Err f)
  local_fault left show c d f l = told_fault p whole_local left show old.marks c d f l

  pub local_told : (h : IsBefore p C m.name.name old.pool old.vars.list x) (mid : Env) (keeps : Keeps old.pool mid.pool) (vars : mid.vars.list ≡ old.vars.list) (id : TyId) (c : Resolved) {B : Type 0} (show : B → Before) (r : Result B CheckFault)
      → Leads p whole_local (with_type (shown mid.pool id)) old.marks mid.marks
      → PlanTold p (local_with (in_at C m t) (before_at mid x) n e (var n.name x.next fixed (shown mid.pool id))) show mid.marks c r → PlanTold p whole_local show old.marks c r
  local_told h mid keeps vars id c show r l w =
      leads_told show c l r
      (subst (λ (q : Before). PlanTold p (local_with (in_at C m t) q n e (var n.name x.next fixed (shown mid.pool id))) show mid.marks c r)
      (before_kept p C m.name.name old x mid x h keeps vars (record { declared = refl; scope = refl; next = refl })) w)

-- what is after the last step is after both
pub local_after : (p : Program) (C : Path) (m : Name) (old : Env) (x : Locals) (mid new : Env) (y : Locals) → mid.vars.list ≡ old.vars.list → (r : Result (Unit {0}) CheckFault)
    → OnOk r (IsAfter p C m mid x new y) → OnOk r (IsAfter p C m old x new y)
local_after p C m old x mid new y e (Ok u) a = after_then p C m old x mid x new y e (record { declared = refl; scope = refl; next = refl }) a
local_after p C m old x mid new y e (Err f) a = tt

-- ---- assignments

record Found (pool : List Ty) (o : Option Var) (k : Assigned) : Type 0 where
  pub v : Var
  pub named : o ≡ Some v
  pub is : IsAssigned pool v k

some_is : (pool : List Ty) (o : Option Var) (k : Option Assigned) (a : Assigned) → k ≡ Some a → AssignedIs pool o k → Found pool o a
some_is pool o None a e h = cc
some_is pool None (Some b) a e h = absurd h
some_is pool (Some v) (Some b) a e h = record { v = v; named = refl; is = subst (IsAssigned pool v) (same e) h } where
  same : Some b ≡ Some a → b ≡ a
  same f = cc

module _ (p : Program) (b : In) (x : Before) (n : Named) (e : Expr) (o : Option Var) (before : Resolved) where
  assign_leads : (v : Var) → o ≡ Some v → v.fixed ≡ false → (after : Resolved) → Adds (VarMark v.path ∷ []) before after
      → Leads p (assign_typed b x n e o) (typed_below b x e x.scope v.ty (done x)) before after
  assign_leads v i free after d =
      subst (λ (k : Option Var). Leads p (assign_typed b x n e k) (typed_below b x e x.scope v.ty (done x)) before after) (sym i)
      (leads_note (leads_want (not v.fixed) (of_name rule.E24 (here b x) n.at n.name) (ap not free) (leads_here (assign_typed b x n e (Some v)) before)) d)

  module _ (pool : List Ty) (k : Option Assigned) (is : AssignedIs pool o k) where
    -- the expression has to be below the declared type, by its number
    pub assign_below : (a : Assigned) → k ≡ Some a → a.fixed ≡ false → (mid later : Resolved) → Adds (VarMark a.path ∷ []) before mid → (r : Result (Unit {0}) CheckFault)
        → LeadsTold p (typed_below b x e x.scope (shown pool a.ty) (done x)) (λ (u : Unit {0}). done x) mid later r
        → LeadsTold p (assign_typed b x n e o) (λ (u : Unit {0}). done x) before later r
    assign_below a i free mid later d r l =
        let v = some_is pool o k a i is in
        leads_leads (λ (u : Unit {0}). done x) later
        (assign_leads v.v v.named (sym v.is.fixed ∙ free) mid (subst (λ (q : ℕ). Adds (VarMark q ∷ []) before mid) v.is.path d)) r
        (subst (λ (t : Ty). LeadsTold p (typed_below b x e x.scope t (done x)) (λ (u : Unit {0}). done x) mid later r) v.is.ty.shows l)

-- ---- the type of a variable that is assigned to fits

pub assigned_fits : (p : Program) (at : Site) (s : Scope) → IsThere p at s → (pool : List Ty) (x : Name) (k : Assigned) (o : Option Assigned) → o ≡ Some k
    → AssignedIs pool (var_named (record { list = at.vars }) x) o → TypeFits s (shown pool k.ty)
assigned_fits p at s h pool x k o e i = of (var_named (record { list = at.vars }) x) refl (subst (AssignedIs pool (var_named (record { list = at.vars }) x)) e i) where
  of : (w : Option Var) → var_named (record { list = at.vars }) x ≡ w → AssignedIs pool w (Some k) → TypeFits s (shown pool k.ty)
  of None f j = absurd j
  of (Some v) f j = subst (TypeFits s) (sym j.ty.shows) (vars_there p at s h v (found_among at.vars x v f)).type
