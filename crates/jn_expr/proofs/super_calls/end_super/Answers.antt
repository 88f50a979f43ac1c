use Rattle.std.proofs.Common.{refl, ap}
use Rattle.jn_base.specs.Scopes.{Scope as TypeScope}
use Rattle.jn_heads.specs.Params.{header_in}
use Rattle.jn_intern.proofs.Pools.{scope_kept}
use Rattle.jn_intern.specs.Pools.{scope_in}
use Rattle.jn_rules.specs.Exprs.{Passed, constraints_granted, result_gives}
use Rattle.jn_expr.specs.Calling.{body_of}
use Rattle.jn_expr.specs.Envs.{here_at}
use Rattle.jn_expr.specs.Steps.{passed_in}
use Rattle.jn_expr.specs.Values.{typed_in}
use Rattle.jn_expr.proofs.Leading.{leads_told}
use Rattle.jn_expr.proofs.Scopes.{scope_stays, stays_more}
use Rattle.jn_expr.proofs.CallDepths.{call_same}
use Rattle.jn_expr.proofs.WalkCalls.{header_stays, result_at, begun_fault}
use Rattle.jn_expr.proofs.super_calls.end_super.Goals as goal

pub result_of-requires-clause-scope : goal.result_of-requires-clause-scope
result_of-requires-clause-scope c = scope_stays c.requires.scope c.in-Ok.ensures.stays.pool

pub result_of-requires-clause-call : goal.result_of-requires-clause-call
result_of-requires-clause-call c =
    call_same c.requires.scope c.in-Ok.ensures.stays.pool c.requires.call

pub returns-in-Err-clause-told : goal.returns-in-Err-clause-told
returns-in-Err-clause-told c =
    begun_fault c.args.p.now
    (constraints_granted (here_at c.args.class.now c.args.m.now c.args.env.now.vars.list) (body_of c.args.owner.now c.args.method.now) c.args.name.now
    (scope_in c.args.env.now.pool c.args.scope.now) c.args.method.now.sharing
    (result_gives (header_in c.args.env.now.pool c.args.call.now.header) (passed_in c.args.env.now.pool c.args.scope.now c.args.call.now))) (λ (u : Unit {0}). result_gives (header_in c.args.env.now.pool c.args.call.now.header) (passed_in c.args.env.now.pool c.args.scope.now c.args.call.now))
    (typed_in c.constraints_granted.new.env.pool c.args.scope.now) c.args.env.now.marks c.constraints_granted.new.env.marks c.constraints_granted.new.env.marks c.in-Err.fault
    (c.in-Err.ensures.told (result_gives (header_in c.args.env.now.pool c.args.call.now.header) (passed_in c.args.env.now.pool c.args.scope.now c.args.call.now)))

pub returns-in-Ok-clause-told : goal.returns-in-Ok-clause-told
returns-in-Ok-clause-told c =
    leads_told (typed_in c.result_of.new.env.pool c.args.scope.now) c.result_of.new.env.marks
    (c.in-Ok.ensures.told (result_gives (header_in c.args.env.now.pool c.args.call.now.header) (passed_in c.args.env.now.pool c.args.scope.now c.args.call.now)))
    c.result_of.result
    (result_at c.args.p.now (header_in c.constraints_granted.new.env.pool c.args.call.now.header) (header_in c.args.env.now.pool c.args.call.now.header)
    (passed_in c.constraints_granted.new.env.pool c.args.scope.now c.args.call.now) (passed_in c.args.env.now.pool c.args.scope.now c.args.call.now)
    (typed_in c.result_of.new.env.pool c.args.scope.now) c.constraints_granted.new.env.marks c.result_of.new.env.marks c.result_of.result
    (header_stays c.args.env.now.pool c.constraints_granted.new.env.pool c.args.call.now c.args.call.now c.requires.call.is_call c.in-Ok.ensures.stays.pool refl refl)
    (ap (λ (s : TypeScope). let x : Passed = record { paths = c.args.call.now.paths.items; scope = s } in x) (scope_kept c.args.scope.now c.requires.scope.known c.in-Ok.ensures.stays.pool))
    c.result_of.ensures.told)

pub returns-in-Ok-clause-stays : goal.returns-in-Ok-clause-stays
returns-in-Ok-clause-stays c = stays_more c.in-Ok.ensures.stays c.result_of.ensures.stays
