use Rattle.std.proofs.Common.{rules, ◌≡◌, length}
use Rattle.jn_intern.specs.Pools.{scope_in, shown}
use Rattle.jn_rules.specs.Exprs.{expr_types}
use Rattle.jn_expr.specs.Envs.{here_at}
use Rattle.jn_expr.specs.Values.{typed_in}
use Rattle.jn_check.proofs.Standing.{cut_back}
use Rattle.jn_check.proofs.Telling.{fault_first, alone_went}
use Rattle.jn_check.proofs.exprs.type_alone.Goals as goal

pub returns-in-Err-clause-told : goal.returns-in-Err-clause-told
returns-in-Err-clause-told c = λ go.
    fault_first c.args.p.now (expr_types (here_at c.args.class.now c.args.m.now c.args.env.now.vars.list) c.args.e.now (scope_in c.args.env.now.pool c.args.scope.now)) (λ y. go y.ty)
    (typed_in c.value_of.new.env.pool c.value_of.new.scope) (λ id. go (shown c.value_of.new.env.pool id)) c.args.env.now.marks c.value_of.new.env.marks c.args.env.now.marks
    c.value_of.new.env.marks c.in-Err.fault c.in-Err.ensures.told

pub returns-in-Ok-clause-told : goal.returns-in-Ok-clause-told
returns-in-Ok-clause-told c = λ go.
    alone_went c.args.p.now (here_at c.args.class.now c.args.m.now c.args.env.now.vars.list) c.args.e.now (scope_in c.args.env.now.pool c.args.scope.now) c.args.env.now.marks go
    (typed_in c.value_of.new.env.pool c.value_of.new.scope c.in-Ok.v) c.value_of.new.env.marks c.in-Ok.ensures.told

pub returns-in-Ok-clause-number : goal.returns-in-Ok-clause-number
returns-in-Ok-clause-number c = c.in-Ok.ensures.value.number

pub returns-in-Ok-clause-kept : goal.returns-in-Ok-clause-kept
returns-in-Ok-clause-kept c =
    let n : c.len-count.result ≡ length c.args.scope.now.binds.items = search rules in
    cut_back c.args.scope.now c.value_of.new.scope c.len-count.result _ n c.in-Ok.ensures.value.grows c.truncate.ensures.items
