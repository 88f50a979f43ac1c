-- Assignments to fields.
use Rattle.std.proofs.Common.{◌≡◌, ℕ, List, [], ◌∷◌, true, false, map, Option, Some, None, Result, Ok, Err, sym, ap, ◌∙◌, subst, arith, append-nil, All}
use Rattle.jn_base.specs.declared.tree.Name.{Name}
use Rattle.jn_base.specs.declared.tree.Named.{Named}
use Rattle.jn_base.specs.declared.tree.Place.{Place}
use Rattle.jn_base.specs.declared.tree.Method.{Method}
use Rattle.jn_base.specs.declared.tree.Expr.{Expr}
use Rattle.jn_base.specs.declared.tree.Program.{Program}
use Rattle.jn_base.specs.declared.types.Ty.{Ty}
use Rattle.jn_base.specs.declared.names.Var.{Var}
use Rattle.jn_base.specs.declared.names.Resolved.{Resolved}
use Rattle.jn_base.specs.declared.refusal.Rule.TheVariants as rule
use Rattle.jn_base.specs.Paths.{Path}
use Rattle.jn_base.specs.Scopes.{Scope}
use Rattle.jn_base.specs.Resolve.{is_class}
use Rattle.jn_base.specs.Fits.{ScopeFits}
use Rattle.jn_intern.specs.declared.scope.Bind.{Bind as NumberBind}
use Rattle.jn_intern.specs.declared.scope.Scope.{Scope as NumberScope}
use Rattle.jn_intern.specs.Pools.{InPool, Keeps, ScopeInPool, scope_in}
use Rattle.jn_intern.proofs.Pools.{scope_kept}
use Rattle.jn_subtype.specs.Binds.{binds_in}
use Rattle.jn_heads.specs.declared.fault.CheckFault.{CheckFault}
use Rattle.jn_rules.specs.Plans.{FoundField, MemberMark, Plan}
use Rattle.jn_rules.specs.Questions.{Finds, IsFoundField, Notes}
use Rattle.jn_rules.specs.Exprs.{Here, Typed, expr_types, mismatch, of_class, first_bound, path_of, field_type}
use Rattle.jn_rules.specs.Stmts.{Before, dropped, set_typed, typed_below}
use Rattle.jn_expr.specs.declared.env.Env.{Env}
use Rattle.jn_expr.specs.Envs.{here_at, InOrder, IsScope}
use Rattle.jn_expr.specs.Told.{Adds, Went, PlanTold, FaultIs}
use Rattle.jn_expr.specs.Steps.{Leads, LeadsTold}
use Rattle.jn_expr.proofs.Scopes.{scope_stays}
use Rattle.jn_expr.proofs.Leading.{leads_here, leads_ask, leads_want, leads_note, leads_then, leads_leads}
use Rattle.jn_check.specs.declared.state.Locals.{Locals}
use Rattle.jn_check.specs.Masks.{bare}
use Rattle.jn_check.specs.States.{in_at, before_in, before_at, IsBefore, IsAfter}
use Rattle.jn_check.specs.Storing.{stored_in}
use Rattle.jn_check.proofs.Standing.{before_with}
use Rattle.jn_check.proofs.Telling.{fault_refused, fault_wanted, fault_first, leads_on}

-- ---- the field of a receiver

module _ (p : Program) (h : Here) (at : Place) (f : Named) (r : Typed) (go : Scope → Ty → Plan Before) (before : Resolved) where
  abbrev pub whole_in : Plan Before
  whole_in = stored_in h at f r go

  pub no_class : {B : Type 0} (left : B → Plan Before) (later : Resolved) → is_class r.ty ≡ false → (fault : CheckFault) → FaultIs fault (mismatch h at) → LeadsTold p whole_in left before later (Err fault)
  no_class left later i fault g = fault_wanted left later (is_class r.ty) (mismatch h at) _ i (leads_here whole_in before) fault g

  module _ (class : is_class r.ty ≡ true) where
    pub no_field : {B : Type 0} (left : B → Plan Before) (later : Resolved) → Finds (IsFoundField p r.scope r.ty f.name) None → (fault : CheckFault)
        → FaultIs fault (of_class rule.E16 (first_bound r) f f.name) → LeadsTold p whole_in left before later (Err fault)
    no_field left later none fault g =
        fault_refused left later (of_class rule.E16 (first_bound r) f f.name) (leads_ask (leads_want (is_class r.ty) (mismatch h at) class (leads_here whole_in before)) None none) fault g

    pub field_leads : (c : FoundField) → Finds (IsFoundField p r.scope r.ty f.name) (Some c) → (after : Resolved) → Adds (MemberMark c.class ∷ []) before after → (s : Scope) (t : Ty)
        → s ≡ (path_of r.ty r).scope → t ≡ field_type c (path_of r.ty r) → Leads p whole_in (go s t) before after
    field_leads c found after d s t i j =
        subst (λ (y : Scope). Leads p whole_in (go y t) before after) (sym i)
        (subst (λ (u : Ty). Leads p whole_in (go (path_of r.ty r).scope u) before after) (sym j)
        (leads_note (leads_ask (leads_want (is_class r.ty) (mismatch h at) class (leads_here whole_in before)) (Some c) found) d))

-- ---- up to the masks

module _ (p : Program) (C : Path) (m : Method) (t : Ty) (vars : List Var) (s : Scope) (n : ℕ) (of : Expr) (f : Named) (e : Expr) (before : Resolved) where
  abbrev pub X : Before
  X = before_in vars s n

  abbrev pub whole_set : Plan Before
  whole_set = set_typed (in_at C m t) X of f e

  abbrev pub left_set : Option ℕ → Plan Before
  left_set q = dropped X f.name q

  abbrev pub go_set : Option ℕ → Scope → Ty → Plan Before
  go_set q c u = typed_below (in_at C m t) X e c u (left_set q)

  abbrev pub behind : Typed → Plan Before
  behind r = stored_in (here_at C m vars) of.at f r (go_set r.path)

  pub receiver_fault : {B : Type 0} (show : B → Typed) (c d : Resolved) (fault : CheckFault) → PlanTold p (expr_types (here_at C m vars) of s) show before c (Err fault)
      → LeadsTold p whole_set left_set before d (Err fault)
  receiver_fault show c d fault g = fault_first p (expr_types (here_at C m vars) of s) behind show left_set before c before d fault g

  module _ (r : Typed) (mid : Resolved) (w : Went p (expr_types (here_at C m vars) of s) r before mid) where
    receiver_leads : Leads p whole_set (behind r) before mid
    receiver_leads = leads_then (expr_types (here_at C m vars) of s) behind (leads_here whole_set before) w

    pub field_fault : {B : Type 0} (left : B → Plan Before) (c d : Resolved) (fault : CheckFault) → LeadsTold p (behind r) left mid c (Err fault) → LeadsTold p whole_set left_set before d (Err fault)
    field_fault left c d fault g = leads_on left left_set c d receiver_leads fault g

    -- the field has this type, in this scope
    module _ (c : Scope) (u : Ty) (now : Resolved) (l : Leads p (behind r) (go_set r.path c u) mid now) where
      to_field : Leads p whole_set (go_set r.path c u) before now
      to_field = leads_leads {B = Unit {0}} (λ x. go_set r.path c u) now receiver_leads (Ok tt) l

      pub value_fault : (later d : Resolved) (fault : CheckFault) → LeadsTold p (go_set r.path c u) (λ (x : Unit {0}). left_set r.path) now later (Err fault) → LeadsTold p whole_set left_set before d (Err fault)
      value_fault later d fault g = leads_on (λ (x : Unit {0}). left_set r.path) left_set later d to_field fault g

      pub value_leads : (later : Resolved) → Leads p (go_set r.path c u) (left_set r.path) now later → Leads p whole_set (left_set r.path) before later
      value_leads later k = leads_leads {B = Unit {0}} (λ x. left_set r.path) later to_field (Ok tt) k

-- the same of the variables that an expression leaves
pub leads_in : (p : Program) (C : Path) (m : Method) (at : Place) (f : Named) (r : Typed) (go : Scope → Ty → Plan Before) (rest : Plan Before) (a b : Resolved) {vars vs : List Var} → vs ≡ vars
    → Leads p (stored_in (here_at C m vs) at f r go) rest a b → Leads p (stored_in (here_at C m vars) at f r go) rest a b
leads_in p C m at f r go rest a b e l = subst (λ (ws : List Var). Leads p (stored_in (here_at C m ws) at f r go) rest a b) e l

pub below_in : (p : Program) (C : Path) (m : Method) (t : Ty) (s : Scope) (n : ℕ) (e : Expr) (d : Scope) (u : Ty) (left : Plan Before) (a b : Resolved) (o : Result (Unit {0}) CheckFault) {vars vs : List Var} → vs ≡ vars
    → LeadsTold p (typed_below (in_at C m t) (before_in vs s n) e d u left) (λ (x : Unit {0}). left) a b o → LeadsTold p (typed_below (in_at C m t) (before_in vars s n) e d u left) (λ (x : Unit {0}). left) a b o
below_in p C m t s n e d u left a b o i l = subst (λ (ws : List Var). LeadsTold p (typed_below (in_at C m t) (before_in ws s n) e d u left) (λ (x : Unit {0}). left) a b o) i l

-- ---- a whole assignment

-- a scope with the same binds, in a pool that has grown
pub scope_again : (old new : List Ty) (x z : NumberScope) → IsScope old x → Keeps old new → z.binds.items ≡ x.binds.items → IsScope new z
scope_again old new x z h k e =
    let s : IsScope new x = scope_stays h k in record {
      known = subst (All (λ (b : NumberBind). InPool new b.ty)) (sym e) s.known;
      fits = subst ScopeFits (ap (λ (bs : List NumberBind). binds_in new bs) (sym e)) s.fits;
      order = subst InOrder (ap (λ (bs : List NumberBind). binds_in new bs) (sym e)) s.order;
    }

-- what is left notes nothing
pub leads_ended : {A : Type 0} (p : Program) (whole rest : Plan A) (a b : Resolved) (y : A) → Leads p whole rest a b → Notes p rest [] y → Went p whole y a b
leads_ended p whole rest a b y l n = record {
  marks = l.marks;
  notes = subst (λ ms. Notes p whole ms y) (append-nil l.marks) (l.notes [] y n);
  added = l.added;
}

module _ (p : Program) (C : Path) (m : Name) (old : Env) (x : Locals) (mid : Env) (z : Locals) (new : Env) (y : Locals) (h : IsBefore p C m old.pool old.vars.list x)
    (keeps : Keeps old.pool mid.pool) (same : z.scope.binds.items ≡ x.scope.binds.items) where
  pub scope_same : scope_in mid.pool z.scope ≡ scope_in old.pool x.scope
  scope_same = ap (binds_in mid.pool) same ∙ scope_kept x.scope h.known keeps

  module _ (more : Keeps old.pool new.pool) (vars : new.vars.list ≡ old.vars.list) (declared : y.declared.binds.items ≡ x.declared.binds.items) (next : y.next ≡ x.next) where
    pub set_after : ScopeInPool new.pool y.scope → map bare (scope_in new.pool y.scope) ≡ map bare (scope_in mid.pool z.scope) → IsAfter p C m old x new y
    set_after known agree = record {
      before = before_with p C m old.pool new.pool old.vars.list new.vars.list x y h more vars declared known (agree ∙ ap (map bare) scope_same) (omega (arith, next));
      more = [];
      vars = vars ∙ sym (append-nil old.vars.list);
      binds = [];
      declared = declared ∙ sym (append-nil x.declared.binds.items);
      next = omega (arith, next);
    }

    pub set_went : (whole : Plan Before) (f : Name) (q : Option ℕ) (a b : Resolved) → Leads p whole (dropped (before_at old x) f q) a b
        → Notes p (dropped (before_in old.vars.list (scope_in mid.pool z.scope) x.next) f q) [] (before_in old.vars.list (scope_in new.pool y.scope) x.next)
        → Went p whole (before_at new y) a b
    set_went whole f q a b l n =
        leads_ended p whole (dropped (before_at old x) f q) a b (before_at new y) l
        (subst (λ (w : Before). Notes p (dropped (before_at old x) f q) [] w) there
        (subst (λ (s : Scope). Notes p (dropped (before_in old.vars.list s x.next) f q) [] (before_in old.vars.list (scope_in new.pool y.scope) x.next)) scope_same n))
      where
        there : before_in old.vars.list (scope_in new.pool y.scope) x.next ≡ before_at new y
        there = ap (λ (vs : List Var). before_in vs (scope_in new.pool y.scope) x.next) (sym vars) ∙ ap (before_in new.vars.list (scope_in new.pool y.scope)) (sym next)
