use Rattle.std.proofs.Common.{◌∙◌, ap, reverse, subst}
use Rattle.jn_base.specs.Members.{MethodAt}
use Rattle.jn_base.specs.Paths.{Path}
use Rattle.jn_base.proofs.Unique.{one_method_at}
use Rattle.jn_intern.specs.Pools.{scope_in}
use Rattle.jn_expr.proofs.WalkTypes.{names_of, type_told, type_fault}
use Rattle.jn_expr.proofs.walk.type_of.Goals as goal

pub returns-in-Err-clause-told : goal.returns-in-Err-clause-told
returns-in-Err-clause-told c = λ Q m e at.
    type_fault c.args.p.now c.in_ok-class.class Q c.in-Some.m.now m c.args.env.now.vars.list c.args.e.now (scope_in c.args.env.now.pool c.args.scope.now)
    c.value_of.new.env.pool c.value_of.new.scope c.args.env.now.marks c.value_of.new.env.marks (c.in_ok-class.ensures ∙ (ap reverse c.as_slice.ensures ∙ names_of c.args.env.now.class Q e))
    (one_method_at c.args.p.now c.requires.parts.once Q c.args.env.now.method c.in-Some.m.now m
    (subst (λ (P : Path). MethodAt c.args.p.now P c.args.env.now.method c.in-Some.m.now) (names_of c.args.env.now.class Q e) c.in-Some.ensures) at) c.in-Err.fault c.in-Err.ensures.told

pub returns-clause-told : goal.returns-clause-told
returns-clause-told c = λ Q m e at.
    type_told c.args.p.now c.in_ok-class.class Q c.in-Some.m.now m c.args.env.now.vars.list c.args.e.now (scope_in c.args.env.now.pool c.args.scope.now)
    c.value_of.new.env.pool c.value_of.new.scope c.args.env.now.marks c.value_of.new.env.marks (c.in_ok-class.ensures ∙ (ap reverse c.as_slice.ensures ∙ names_of c.args.env.now.class Q e))
    (one_method_at c.args.p.now c.requires.parts.once Q c.args.env.now.method c.in-Some.m.now m
    (subst (λ (P : Path). MethodAt c.args.p.now P c.args.env.now.method c.in-Some.m.now) (names_of c.args.env.now.class Q e) c.in-Some.ensures) at) c.in-Ok.value c.in-Ok.ensures.told
