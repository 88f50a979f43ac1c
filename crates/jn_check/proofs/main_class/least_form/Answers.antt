use Rattle.std.proofs.Common.{ap, subst}
use Rattle.jn_base.specs.declared.path.Path.{Path as ShownPath}
use Rattle.jn_expr.specs.Found.{LeastAt}
use Rattle.jn_check.proofs.Mains.{looks_so}
use Rattle.jn_check.proofs.main_class.least_form.Goals as goal

pub returns : goal.returns
returns c =
    looks_so c.args.p.now c.args.class.now c.in-Some.owner c.in_ok-path-in-Some.path.names c.args.name c.in-Some-method_at.m.now c.form_of.result
    (subst (LeastAt c.args.p.now c.args.class.now c.args.name) c.in-Some.is (c.in_ok-least_at.ensures c.args.p.now c.requires.members))
    (ap (λ (x : ShownPath). x.names) c.in_ok-path-in-Some.ensures) c.in-Some-method_at.ensures c.form_of.ensures.no_params c.form_of.ensures.void
