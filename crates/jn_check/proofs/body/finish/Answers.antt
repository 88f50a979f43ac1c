use Rattle.std.proofs.Common.{◌||◌, ap, sym, ◌∙◌}
use Rattle.jn_base.specs.declared.types.Ty.{Ty}
use Rattle.jn_rules.specs.Stmts.{is_void, all_stop}
use Rattle.jn_expr.specs.Calling.{body_of}
use Rattle.jn_check.proofs.BodySteps.{end_refused}
use Rattle.jn_check.proofs.body.finish.Goals as goal

pub returns-then-not-may_end-clause-told : goal.returns-then-not-may_end-clause-told
returns-then-not-may_end-clause-told c =
    end_refused (body_of c.args.class.now c.args.m.now) c.args.env.now.marks _ c.refused.result
    (ap (λ (t : Ty). is_void t || all_stop c.args.m.now.body) (sym c.show.ensures) ∙ (sym c.may_end.ensures ∙ c.if-not-may_end.true)) c.refused.ensures

pub returns-clause-told : goal.returns-clause-told
returns-clause-told c =
    (ap (λ (t : Ty). is_void t || all_stop c.args.m.now.body) (sym c.show.ensures) ∙ (sym c.may_end.ensures ∙ c.if-not-may_end.false), c.replace.ensures.value)
