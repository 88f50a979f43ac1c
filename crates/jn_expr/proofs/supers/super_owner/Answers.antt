use Rattle.std.proofs.Common.{◌∙◌, List, ap, length, sym, subst}
use Rattle.jn_base.specs.Atoms.{atom_of, atom_at}
use Rattle.jn_base.specs.Scopes.{bound_of}
use Rattle.jn_intern.specs.declared.scope.Bind.{Bind}
use Rattle.jn_intern.specs.Pools.{scope_in}
use Rattle.jn_subtype.specs.Binds.{binds_in}
use Rattle.jn_expr.specs.Envs.{here_at}
use Rattle.jn_expr.specs.Found.{LeastAt}
use Rattle.jn_expr.proofs.CallDepths.{least_deep}
use Rattle.jn_expr.proofs.SuperSteps.{not_below, no_body_told, body_told}
use Rattle.jn_expr.proofs.supers.super_owner.Goals as goal

pub returns-then-not-branch-clause-told : goal.returns-then-not-branch-clause-told
returns-then-not-branch-clause-told c = λ p es parts.
    not_below p (here_at c.args.class.now c.args.m.now c.args.env.now.vars.list) c.args.t.now c.args.name.now es (scope_in c.args.env.now.pool c.args.scope.now) c.args.x.now
    c.args.env.now.marks c.in_ok-this_below.field-0 c.if-not-branch.true (c.in_ok-this_below.ensures.below p parts.filled) c.refused.result c.refused.ensures

pub returns-in-None-clause-told : goal.returns-in-None-clause-told
returns-in-None-clause-told c = λ p es parts.
    no_body_told p (here_at c.args.class.now c.args.m.now c.args.env.now.vars.list) c.args.t.now c.args.name.now es (scope_in c.args.env.now.pool c.args.scope.now) c.args.x.now
    c.args.env.now.marks c.in_ok-this_below.field-0 c.if-not-branch.false (c.in_ok-this_below.ensures.below p parts.filled) c.in_ok-b.b
    c.in_ok-b.ensures
    (subst (LeastAt p c.in_ok-b.b c.args.name.now.name) c.in-None.is (c.in_ok-least_at.ensures p parts.members))
    c.refused-in-None.result c.refused-in-None.ensures

pub returns-clause-told : goal.returns-clause-told
returns-clause-told c = λ p es parts.
    body_told p (here_at c.args.class.now c.args.m.now c.args.env.now.vars.list) c.args.t.now c.args.name.now es (scope_in c.args.env.now.pool c.args.scope.now) c.args.x.now
    c.args.env.now.marks c.in_ok-this_below.field-0 c.if-not-branch.false (c.in_ok-this_below.ensures.below p parts.filled) c.in_ok-b.b
    c.in_ok-b.ensures c.in-Some.owner
    (subst (LeastAt p c.in_ok-b.b c.args.name.now.name) c.in-Some.is (c.in_ok-least_at.ensures p parts.members))

pub returns-clause-deep : goal.returns-clause-deep
returns-clause-deep c = λ p parts.
    c.in_ok-this_below.ensures.deep p parts.filled c.if-not-branch.false
    ∙ (sym (ap length c.in_ok-b.ensures)
    ∙ sym (least_deep (subst (LeastAt p c.in_ok-b.b c.args.name.now.name) c.in-Some.is (c.in_ok-least_at.ensures p parts.members))))
