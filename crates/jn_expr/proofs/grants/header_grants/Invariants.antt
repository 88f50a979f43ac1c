use Rattle.std.proofs.Common.{◌≡◌, drop}
use Rattle.jn_intern.specs.Pools.{scope_in, shown}
use Rattle.jn_rules.specs.Plans.{Target, target_type}
use Rattle.jn_expr.specs.Envs.{Stays, here_at}
use Rattle.jn_expr.proofs.Granting.{GrantsRest}
use Rattle.jn_expr.proofs.grants.header_grants.Given as goal

abbrev pub invariant-loop-constraint : goal.invariant-loop-constraint
invariant-loop-constraint l = record {
  stays : Stays l.fn.env l.env;
  marks : l.env.marks ≡ l.fn.env.marks;
  rest : (u : Target) → l.to ≡ target_type u
      → GrantsRest l.p (here_at l.class l.m l.fn.env.vars.list) l.m.sharing (drop l.constraint-index l.m.sharing) (scope_in l.fn.env.pool l.scope) (shown l.fn.env.pool l.from) u;
}
