use Rattle.std.proofs.Common.{sym, ap, ◌∙◌}
use Rattle.jn_rules.specs.Exprs.{is_bool}
use Rattle.jn_expr.specs.Envs.{here_at}
use Rattle.jn_expr.specs.Values.{typed_in}
use Rattle.jn_expr.proofs.Typing.{inverted_told}
use Rattle.jn_intern.specs.Pools.{scope_in}
use Rattle.jn_expr.proofs.Typeds.{truth_fits}
use Rattle.jn_expr.proofs.operators.invert.Goals as goal

pub returns-clause-told : goal.returns-clause-told
returns-clause-told c = λ p.
    inverted_told p (typed_in c.plain.new.env.pool c.args.scope.now) c.args.env.now.marks c.plain.new.env.marks c.plain.result
    (here_at c.args.class.now c.args.m.now c.args.env.now.vars.list) c.args.at (typed_in c.args.env.now.pool c.args.scope.now c.args.x)
    (sym (ap is_bool c.show.ensures) ∙ (sym c.is_bool.ensures ∙ c.if-not-is_bool.false)) (c.plain.ensures.told p)

pub plain-requires-clause-fits : goal.plain-requires-clause-fits
plain-requires-clause-fits c = truth_fits (scope_in c.args.env.now.pool c.args.scope.now)
