use Rattle.std.proofs.Common.{sym, subst}
use Rattle.jn_base.specs.declared.types.Ty.{Ty}
use Rattle.jn_table.specs.Tables.{IsFilled}
use Rattle.jn_intern.specs.Pools.{scope_in, shown}
use Rattle.jn_expr.specs.Granting.{GrantTold}
use Rattle.jn_expr.proofs.Granting.{pledge_refused, pledge_told}
use Rattle.jn_expr.proofs.grants.constraint_grants.Goals as goal

pub returns-in-Err-clause-told : goal.returns-in-Err-clause-told
returns-in-Err-clause-told c = λ u e.
    pledge_refused c.args.p.now c.args.class.now c.args.m.now.name.name c.args.constraint.now (scope_in c.args.env.now.pool c.args.scope.now) (shown c.args.env.now.pool c.args.from) u
    c.in-Err.fault c.in-Err.ensures.told

pub returns-in_ok-grants-in-Ok-clause-told : goal.returns-in_ok-grants-in-Ok-clause-told
returns-in_ok-grants-in-Ok-clause-told c = λ u e.
    let s = scope_in c.args.env.now.pool c.args.scope.now in
    let t = shown c.args.env.now.pool c.args.from in
    pledge_told c.args.p.now c.args.class.now c.args.m.now.name.name c.args.constraint.now s t u c.in-Ok.pledge c.pledge_of.new.t c.in_ok-grants-in-Ok.field-0 c.in-Ok.ensures.told
    (subst (IsFilled c.args.p.now) (sym c.in-Ok.ensures.kept) c.requires.parts.filled)
    (subst (λ (y : Ty). GrantTold c.pledge_of.new.t s c.in-Ok.pledge t y c.in_ok-grants-in-Ok.field-0) e c.in_ok-grants-in-Ok.ensures.is)
