use Rattle.std.proofs.Common.{◌<◌, ◌+◌, ◌∙◌, ap, sym, subst, List, length, drop, get_or, Ok, Err, refl, rules}
use Rattle.std.proofs.Math.ListN.{drop_of_length-le}
use Rattle.jn_base.specs.declared.tree.Constraint.{Constraint}
use Rattle.jn_base.specs.declared.names.Var.{Var}
use Rattle.jn_intern.specs.Pools.{scope_in}
use Rattle.jn_intern.proofs.Pools.{scope_kept}
use Rattle.jn_expr.specs.Envs.{here_at}
use Rattle.jn_expr.specs.Calling.{body_of}
use Rattle.jn_expr.proofs.Scopes.{scope_stays, stays_more, vars_stay}
use Rattle.jn_expr.proofs.SuperSteps.{asked_from, none_granted, all_granted, granted_next, next_fault}
use Rattle.jn_expr.proofs.supers.constraints_granted.Goals as goal

pub constraint_granted-requires-clause-scope : goal.constraint_granted-requires-clause-scope
constraint_granted-requires-clause-scope c = scope_stays c.requires.scope c.loop-constraint.invariant.stays.pool

pub returns-in-Err-clause-told : goal.returns-in-Err-clause-told
returns-in-Err-clause-told c = λ go.
    let is = c.as_slice-constraint-items.ensures in
    let i = c.loop-constraint.constraint-index in
    let h = here_at c.args.class.now c.args.m.now c.args.env.now.vars.list in
    let b = body_of c.args.owner.now c.args.method.now in
    let s = scope_in c.args.env.now.pool c.args.scope.now in
    let k = c.loop-constraint.invariant.stays in
    next_fault c.args.p.now h b c.args.name.now s c.args.method.now.sharing go c.args.env.now.marks i c.constraint-item.result
    (subst (λ (xs : List Constraint). i < length xs) is c.loop-constraint-test.true)
    (c.constraint-item.is ∙ ap (λ (xs : List Constraint). get_or xs i c.constraint-item.result) is)
    (c.loop-constraint.invariant.rest go) _ _
    (ap (λ (vs : List Var). here_at c.args.class.now c.args.m.now vs) (vars_stay k))
    (scope_kept c.args.scope.now c.requires.scope.known k.pool) _ c.loop-constraint.invariant.marks (Unit {0}) c.constraint_granted.new.env.marks c.in-Err.fault
    (c.in-Err.ensures.told (asked_from c.args.p.now h b c.args.name.now s c.args.method.now.sharing go c.args.env.now.marks (i + 1)))

pub returns-in-Err-clause-stays : goal.returns-in-Err-clause-stays
returns-in-Err-clause-stays c = stays_more c.loop-constraint.invariant.stays c.constraint_granted.ensures.stays

pub loop-constraint-preserved : goal.loop-constraint-preserved
loop-constraint-preserved c =
    let is = c.as_slice-constraint-items.ensures in
    let i = c.loop-constraint.constraint-index in
    let h = here_at c.args.class.now c.args.m.now c.args.env.now.vars.list in
    let b = body_of c.args.owner.now c.args.method.now in
    let s = scope_in c.args.env.now.pool c.args.scope.now in
    let k = c.loop-constraint.invariant.stays in
    record {
      stays = stays_more k c.constraint_granted.ensures.stays;
      marks = c.constraint_granted.ensures.marks ∙ c.loop-constraint.invariant.marks;
      rest = λ go.
          granted_next c.args.p.now h b c.args.name.now s c.args.method.now.sharing go c.args.env.now.marks i c.constraint-item.result
          (subst (λ (xs : List Constraint). i < length xs) is c.loop-constraint-test.true)
          (c.constraint-item.is ∙ ap (λ (xs : List Constraint). get_or xs i c.constraint-item.result) is)
          (c.loop-constraint.invariant.rest go) _ _
          (ap (λ (vs : List Var). here_at c.args.class.now c.args.m.now vs) (vars_stay k))
          (scope_kept c.args.scope.now c.requires.scope.known k.pool) _ c.loop-constraint.invariant.marks _ c.constraint_granted.ensures.marks
          (c.in-Ok.ensures.told (asked_from c.args.p.now h b c.args.name.now s c.args.method.now.sharing go c.args.env.now.marks (i + 1)));
    }

pub returns-clause-told : goal.returns-clause-told
returns-clause-told c = λ go.
    let is = c.as_slice-constraint-items.ensures in
    let i = c.loop-constraint.constraint-index in
    all_granted c.args.p.now (here_at c.args.class.now c.args.m.now c.args.env.now.vars.list) (body_of c.args.owner.now c.args.method.now) c.args.name.now
    (scope_in c.args.env.now.pool c.args.scope.now) c.args.method.now.sharing go c.args.env.now.marks i
    (sym (ap (λ (xs : List Constraint). drop i xs) is) ∙ drop_of_length-le c.as_slice-constraint-items.result.now {i = i} (search rules))
    (c.loop-constraint.invariant.rest go) _ c.loop-constraint.invariant.marks
