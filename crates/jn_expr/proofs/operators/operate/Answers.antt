use Rattle.std.proofs.Common.{sym, ap, ◌∙◌, subst}
use Rattle.jn_base.specs.declared.types.Ty.{Ty}
use Rattle.jn_rules.specs.Exprs.{takes, takes_both, gives, plain}
use Rattle.jn_intern.specs.Pools.{scope_in, shown}
use Rattle.jn_expr.specs.Envs.{here_at}
use Rattle.jn_expr.specs.Told.{PlanTold}
use Rattle.jn_expr.specs.Values.{typed_in}
use Rattle.jn_expr.proofs.Typing.{operated_told}
use Rattle.jn_base.specs.Fits.{TypeFits}
use Rattle.jn_expr.proofs.Typeds.{operator_fits}
use Rattle.jn_expr.proofs.operators.operate.Goals as goal

pub returns-clause-told : goal.returns-clause-told
returns-clause-told c = λ p.
    operated_told p (typed_in c.plain.new.env.pool c.args.scope.now) c.args.env.now.marks c.plain.new.env.marks c.plain.result
    (here_at c.args.class.now c.args.m.now c.args.env.now.vars.list) c.args.l.now (shown c.args.env.now.pool c.args.x) (typed_in c.args.env.now.pool c.args.scope.now c.args.y)
    (sym (ap (takes c.args.l.now.op) c.show.ensures) ∙ (sym c.takes.ensures ∙ c.if-not-takes.false))
    (sym (ap (takes_both c.args.l.now.op c.show-2.result.now) c.show-3.ensures ∙ ap (λ (t : Ty). takes_both c.args.l.now.op t (shown c.args.env.now.pool c.args.y.ty)) c.show-2.ensures)
    ∙ (sym c.takes_both.ensures ∙ c.if-not-takes_both.false))
    (subst (λ (t : Ty). PlanTold p (gives (plain t (scope_in c.args.env.now.pool c.args.scope.now))) (typed_in c.plain.new.env.pool c.args.scope.now) c.args.env.now.marks
    c.plain.new.env.marks c.plain.result)
    c.operator_type-ty.ensures (c.plain.ensures.told p))

pub plain-requires-clause-fits : goal.plain-requires-clause-fits
plain-requires-clause-fits c =
    let s = scope_in c.args.env.now.pool c.args.scope.now in
    subst (TypeFits s) (sym c.operator_type-ty.ensures) (operator_fits s c.args.l.now.op)
