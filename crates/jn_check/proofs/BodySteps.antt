-- Whole bodies: the header, the statements, and whether the end can be reached.
use Rattle.std.proofs.Common.{◌≡◌, ◌≤◌, ◌||◌, suc, List, All, length, map, Bool, true, false, Result, Ok, Err, sym, ap, ◌∙◌, subst, arith}
use Rattle.jn_base.specs.declared.tree.Name.{Name}
use Rattle.jn_base.specs.declared.tree.Program.{Program}
use Rattle.jn_base.specs.declared.tree.Stmt.{Stmt}
use Rattle.jn_base.specs.declared.types.Ty.{Ty}
use Rattle.jn_base.specs.declared.names.Resolved.{Resolved}
use Rattle.jn_base.specs.declared.names.Var.{Var}
use Rattle.jn_base.specs.Paths.{Path}
use Rattle.jn_base.specs.Scopes.{Scope}
use Rattle.jn_sem.specs.Does.{Body}
use Rattle.jn_intern.specs.declared.scope.Bind.{Bind as NumberBind}
use Rattle.jn_intern.specs.Pools.{ScopeInPool, scope_in, InPool, Keeps, shown}
use Rattle.jn_subtype.specs.Binds.{binds_in}
use Rattle.jn_heads.specs.declared.fault.CheckFault.{CheckFault}
use Rattle.jn_heads.specs.declared.fault.CheckFault.TheVariants.{Refused, Memory}
use Rattle.jn_heads.specs.declared.params.Header.{Header as CodeHeader}
use Rattle.jn_heads.specs.declared.place.Place.{Place}
use Rattle.jn_heads.specs.Places.{Stands, IsIn, site_of}
use Rattle.jn_heads.specs.Told.{Told}
use Rattle.jn_laws.specs.LawsOfWritten.{site_with, scope_of, SiteFits}
use Rattle.jn_rules.specs.Plans.{Nothing, Plan, done, wants}
use Rattle.jn_rules.specs.Questions.{Gives}
use Rattle.jn_rules.specs.Headers.{Header, header_typed}
use Rattle.jn_rules.specs.Stmts.{Before, stmts_type, body_in, at_start, body_with, body_types, is_void, all_stop}
use Rattle.jn_rules.specs.Resolved.{IsResolved}
use Rattle.jn_rules.proofs.PlanLaws.{then_refuses}
use Rattle.jn_expr.specs.declared.env.Env.{Env}
use Rattle.jn_expr.specs.Told.{Went, PlanTold, FaultIs}
use Rattle.jn_expr.specs.Steps.{Leads}
use Rattle.jn_expr.proofs.Leading.{leads_here, leads_then, leads_quiet, leads_want, leads_done, leads_unwanted, leads_fault}
use Rattle.jn_expr.proofs.CallSteps.{header_quiet}
use Rattle.jn_check.specs.declared.state.Locals.{Locals}
use Rattle.jn_check.specs.declared.body.Begun.{Begun}
use Rattle.jn_check.specs.Bodies.{nothing_typed, unreturned, Begins, BeginTold, EndTold, BodyTold}
use Rattle.jn_check.specs.Masks.{bare}
use Rattle.jn_check.specs.States.{in_at, before_in, before_at, IsBefore}

-- ---- what is told of a body

module _ (p : Program) (b : Body) where
  -- a body is passed with its marks
  pub body_resolved : (r : Resolved) → Went p (body_types b) tt (nothing_typed b.class b.method.name.name) r → IsResolved p b r
  body_resolved r w = record {
    class = w.added.class;
    method = w.added.method;
    marks = w.marks;
    noted = w.notes;
    sorted = record { terms = w.added.terms; vars = w.added.vars; members = w.added.members; kinds = w.added.kinds };
  }

  as_told : {B : Type 0} (show : B → Nothing) (m0 m1 : Resolved) (f : CheckFault) → PlanTold p (body_types b) show m0 m1 (Err f) → BodyTold p b (Err f)
  as_told show m0 m1 (Refused r) g = g
  as_told show m0 m1 Memory g = tt

  -- its header is refused
  pub begin_refused : (env : Env) (show : CodeHeader → Header) (f : CheckFault) → Told (Gives p (header_typed b)) show (Err f) → BeginTold p b env (Err f)
  begin_refused env show (Refused r) g = g
  begin_refused env show Memory g = tt

  pub header_refused : (env : Env) (f : CheckFault) → BeginTold p b env (Err f) → BodyTold p b (Err f)
  header_refused env (Refused r) g = then_refuses p (header_typed b) (body_with b) r g
  header_refused env Memory g = tt

  module _ (h : Header) (g : Gives p (header_typed b) (Ok h)) (m0 m1 : Resolved) where
    headed : Leads p (body_types b) (body_with b h) m0 m0
    headed = leads_quiet (header_typed b) (body_with b) h (leads_here (body_types b) m0) (header_quiet p b h g)

    abbrev end_go : Before → Plan Nothing
    end_go y = wants (is_void h.result || all_stop b.method.body) (unreturned b) (done tt)

    -- a statement is refused
    pub stmts_refused : {D : Type 0} (given : D → Before) (f : CheckFault) → PlanTold p (stmts_type (body_in b h) b.method.body (at_start b h)) given m0 m1 (Err f)
        → BodyTold p b (Err f)
    stmts_refused given f t =
        as_told (λ (u : Nothing). u) m0 m1 f
        (leads_fault given (λ (u : Nothing). u) (stmts_type (body_in b h) b.method.body (at_start b h)) end_go m1 m1 headed f t)

    module _ (y : Before) (w : Went p (stmts_type (body_in b h) b.method.body (at_start b h)) y m0 m1) where
      behind_stmts : Leads p (body_types b) (end_go y) m0 m1
      behind_stmts = leads_then (stmts_type (body_in b h) b.method.body (at_start b h)) end_go headed w

      body_went : (is_void h.result || all_stop b.method.body) ≡ true → Went p (body_types b) tt m0 m1
      body_went e = leads_done (leads_want (is_void h.result || all_stop b.method.body) (unreturned b) e behind_stmts)

      -- what is told of the end is told of the whole
      pub end_told : m0 ≡ nothing_typed b.class b.method.name.name → (may : Bool) → may ≡ (is_void h.result || all_stop b.method.body) → (o : Result Resolved CheckFault)
          → EndTold may b m1 o → BodyTold p b o
      end_told e may i (Ok r) t =
          subst (IsResolved p b) (sym t.1)
          (body_resolved m1 (subst (λ (m : Resolved). Went p (body_types b) tt m m1) e (body_went (sym i ∙ t.0))))
      end_told e may i (Err (Refused r)) t =
          as_told (λ (u : Nothing). u) m0 m1 (Refused r)
          (leads_unwanted (λ (u : Nothing). u) m1 (is_void h.result || all_stop b.method.body) (unreturned b) (done tt) (sym i ∙ t.0) behind_stmts (Refused r) t.1)
      end_told e may i (Err Memory) t = tt

pub end_refused : (b : Body) (m : Resolved) (may : Bool) (f : CheckFault) → may ≡ false → FaultIs f (unreturned b) → EndTold may b m (Err f)
end_refused b m may (Refused r) e i = (e, i)
end_refused b m may Memory e i = tt

-- the statements of a body that has begun
module _ (p : Program) (b : Body) (env : Env) (x : Begun) (g : Begins p b env x) where
  pub begun_stmts : {D : Type 0} (show : D → Before) (body : List Stmt) (m1 : Resolved) (o : Result D CheckFault) → body ≡ b.method.body
      → PlanTold p (stmts_type (in_at b.class b.method g.header.result) body (before_at env x.at)) show env.marks m1 o
      → PlanTold p (stmts_type (body_in b g.header) b.method.body (at_start b g.header)) show env.marks m1 o
  begun_stmts show body m1 o e t =
      subst (λ (y : Before). PlanTold p (stmts_type (body_in b g.header) b.method.body y) show env.marks m1 o) g.start
      (subst (λ (ss : List Stmt). PlanTold p (stmts_type (body_in b g.header) ss (before_at env x.at)) show env.marks m1 o) e t)

  pub begun_shown : (next : List Ty) → Keeps env.pool next → shown next x.gives ≡ g.header.result
  begun_shown next k = k.shows x.gives g.result.number ∙ g.result.shows

-- ---- behind a header

module _ (p : Program) (b : Body) (pool : List Ty) (at : Place) (x : Locals) (s : Stands p pool at) (i : IsIn b at) (declared : x.declared ≡ at.scope)
    (scope : x.scope.binds.items ≡ at.scope.binds.items) (next : x.next ≡ suc (length at.vars.list)) (small : x.next ≤ 256) where
  same_site : site_of at ≡ site_with b.class b.method.name.name at.vars.list
  same_site = ap (λ (C : Path). site_with C at.method at.vars.list) i.class ∙ ap (λ (m : Name). site_with b.class m at.vars.list) i.method

  scope_there : scope_in pool at.scope ≡ scope_of (site_with b.class b.method.name.name at.vars.list)
  scope_there = s.scope ∙ ap scope_of same_site

  scope_now : scope_in pool x.scope ≡ scope_of (site_with b.class b.method.name.name at.vars.list)
  scope_now = ap (binds_in pool) scope ∙ scope_there

  pub begun_before : IsBefore p b.class b.method.name.name pool at.vars.list x
  begun_before = record {
    fits = subst (SiteFits p) same_site s.fits;
    numbered = λ v a. let l = s.numbered v a in omega (arith, l, next);
    low = λ v a. let l = s.numbered v a in omega (arith, l, next, small);
    above = omega (arith, next);
    known_declared = subst (ScopeInPool pool) (sym declared) s.known;
    declared = ap (scope_in pool) declared ∙ scope_there;
    known = subst (All (λ (c : NumberBind). InPool pool c.ty)) (sym scope) s.known;
    agree = ap (map bare) scope_now;
  }

  pub begun_start : (h : Header) → h.vars ≡ at.vars.list → before_in at.vars.list (scope_in pool x.scope) x.next ≡ at_start b h
  begun_start h e =
      ap (λ (c : Scope). before_in at.vars.list c x.next) scope_now
      ∙ (ap (before_in at.vars.list (scope_of (site_with b.class b.method.name.name at.vars.list))) next
      ∙ ap (λ (vs : List Var). before_in vs (scope_of (site_with b.class b.method.name.name vs)) (suc (length vs))) (sym e))
