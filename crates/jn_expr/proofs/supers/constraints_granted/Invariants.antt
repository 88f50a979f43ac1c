use Rattle.std.proofs.Common.{◌≡◌, drop}
use Rattle.jn_intern.specs.Pools.{scope_in}
use Rattle.jn_rules.specs.Plans.{Plan}
use Rattle.jn_rules.specs.Exprs.{Typed, constraints_granted}
use Rattle.jn_expr.specs.Envs.{Stays, here_at}
use Rattle.jn_expr.specs.Steps.{Leads}
use Rattle.jn_expr.specs.Calling.{body_of}
use Rattle.jn_expr.proofs.supers.constraints_granted.Given as goal

abbrev pub invariant-loop-constraint : goal.invariant-loop-constraint
invariant-loop-constraint l = record {
  stays : Stays l.fn.env l.env;
  marks : l.env.marks ≡ l.fn.env.marks;
  rest : (go : Plan Typed) → Leads l.p
      (constraints_granted (here_at l.class l.m l.fn.env.vars.list) (body_of l.owner l.method) l.name (scope_in l.fn.env.pool l.scope) l.method.sharing go)
      (constraints_granted (here_at l.class l.m l.fn.env.vars.list) (body_of l.owner l.method) l.name (scope_in l.fn.env.pool l.scope) (drop l.constraint-index l.method.sharing) go)
      l.fn.env.marks l.fn.env.marks;
}
