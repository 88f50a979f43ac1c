-- Statements that leave the scope as it is.
use Rattle.std.proofs.Common.{◌≡◌, Result, Ok, Err, sym, subst}
use Rattle.std.specs.Prelude.{OnOk}
use Rattle.jn_base.specs.declared.tree.Name.{Name}
use Rattle.jn_base.specs.declared.tree.Program.{Program}
use Rattle.jn_base.specs.declared.names.Resolved.{Resolved}
use Rattle.jn_base.specs.Paths.{Path}
use Rattle.jn_heads.specs.declared.fault.CheckFault.{CheckFault}
use Rattle.jn_heads.specs.declared.fault.CheckFault.TheVariants.{Refused, Memory}
use Rattle.jn_rules.specs.Plans.{Plan, done}
use Rattle.jn_rules.specs.Stmts.{Before}
use Rattle.jn_expr.specs.declared.env.Env.{Env}
use Rattle.jn_expr.specs.Envs.{Stays}
use Rattle.jn_expr.specs.Told.{Went, PlanTold}
use Rattle.jn_expr.specs.Steps.{LeadsTold}
use Rattle.jn_expr.proofs.Scopes.{vars_stay}
use Rattle.jn_expr.proofs.Leading.{leads_done}
use Rattle.jn_check.specs.declared.state.Locals.{Locals}
use Rattle.jn_check.specs.States.{before_at, IsBefore, IsAfter}
use Rattle.jn_check.proofs.Standing.{stays_but, after_kept, before_kept}

-- where an answer is Ok, the scope is as it was
pub kept_after : (p : Program) (C : Path) (m : Name) (old : Env) (x : Locals) (new : Env) (y : Locals) → IsBefore p C m old.pool old.vars.list x → Stays old new → (r : Result (Unit {0}) CheckFault)
    → y.declared.binds.items ≡ x.declared.binds.items → y.next ≡ x.next → OnOk r (y.scope.binds.items ≡ x.scope.binds.items) → OnOk r (IsAfter p C m old x new y)
kept_after p C m old x new y h st (Ok u) d n k = after_kept p C m old x new y h (stays_but st) (vars_stay st) (record { declared = d; scope = k; next = n })
kept_after p C m old x new y h st (Err f) d n k = tt

-- a statement that is done where its parts are
pub kept_told : (p : Program) (C : Path) (m : Name) (old : Env) (x : Locals) (new : Env) (y : Locals) → IsBefore p C m old.pool old.vars.list x → Stays old new → (r : Result (Unit {0}) CheckFault)
    → y.declared.binds.items ≡ x.declared.binds.items → y.next ≡ x.next → OnOk r (y.scope.binds.items ≡ x.scope.binds.items) → (whole : Plan Before) (a b : Resolved)
    → LeadsTold p whole (λ (u : Unit {0}). done (before_at old x)) a b r → PlanTold p whole (λ (u : Unit {0}). before_at new y) a b r
kept_told p C m old x new y h st (Ok u) d n k whole a b l =
    subst (λ (q : Before). Went p whole q a b) (sym (before_kept p C m old x new y h st.pool (vars_stay st) (record { declared = d; scope = k; next = n }))) (leads_done l)
kept_told p C m old x new y h st (Err (Refused r)) d n k whole a b l = l
kept_told p C m old x new y h st (Err Memory) d n k whole a b l = tt
