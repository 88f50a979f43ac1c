use Rattle.std.proofs.Common.{◌<◌, ◌∙◌, ap, sym, subst, List, true, false, length, drop, get_or, Ok, Err, rules}
use Rattle.std.proofs.Math.ListN.{drop_of_length-le}
use Rattle.jn_base.specs.declared.tree.Constraint.{Constraint}
use Rattle.jn_intern.specs.Pools.{scope_in, shown}
use Rattle.jn_intern.proofs.Pools.{scope_kept}
use Rattle.jn_expr.specs.Envs.{here_at}
use Rattle.jn_expr.specs.Granting.{constraint_grants}
use Rattle.jn_expr.proofs.Scopes.{scope_stays, stays_more}
use Rattle.jn_expr.proofs.Granting.{rest_true, rest_false, rest_fault, rest_none, quiet_at, at_bool}
use Rattle.jn_expr.proofs.Typeds.{fits_kept}
use Rattle.jn_expr.proofs.grants.header_grants.Goals as goal

pub constraint_grants-requires-clause-scope : goal.constraint_grants-requires-clause-scope
constraint_grants-requires-clause-scope c = scope_stays c.requires.scope c.loop-constraint.invariant.stays.pool

pub returns-in-Err-clause-told : goal.returns-in-Err-clause-told
returns-in-Err-clause-told c = λ u e.
    let is = c.as_slice-constraint-items.ensures in
    let i = c.loop-constraint.constraint-index in
    let s = scope_in c.args.env.now.pool c.args.scope.now in
    let t = shown c.args.env.now.pool c.args.from in
    let k = c.loop-constraint.invariant.stays.pool in
    rest_fault c.args.p.now (here_at c.args.class.now c.args.m.now c.args.env.now.vars.list) c.args.m.now.sharing i c.constraint-item.result s t u
    (subst (λ (xs : List Constraint). i < length xs) is c.loop-constraint-test.true)
    (c.constraint-item.is ∙ ap (λ (xs : List Constraint). get_or xs i c.constraint-item.result) is)
    (c.loop-constraint.invariant.rest u e) c.in-Err.fault
    (quiet_at c.args.p.now c.args.class.now c.args.m.now.name.name c.constraint-item.result u s _ t _ (Err c.in-Err.fault)
    (scope_kept c.args.scope.now c.requires.scope.known k) (k.shows c.args.from c.requires.number) (c.in-Err.ensures.told u e))

pub returns-in-Err-clause-stays : goal.returns-in-Err-clause-stays
returns-in-Err-clause-stays c = stays_more c.loop-constraint.invariant.stays c.constraint_grants.ensures.stays

pub returns-then-granted-clause-told : goal.returns-then-granted-clause-told
returns-then-granted-clause-told c = λ u e.
    let is = c.as_slice-constraint-items.ensures in
    let i = c.loop-constraint.constraint-index in
    let s = scope_in c.args.env.now.pool c.args.scope.now in
    let t = shown c.args.env.now.pool c.args.from in
    let k = c.loop-constraint.invariant.stays.pool in
    rest_true c.args.p.now (here_at c.args.class.now c.args.m.now c.args.env.now.vars.list) c.args.m.now.sharing i c.constraint-item.result s t u
    (subst (λ (xs : List Constraint). i < length xs) is c.loop-constraint-test.true)
    (c.constraint-item.is ∙ ap (λ (xs : List Constraint). get_or xs i c.constraint-item.result) is)
    (c.loop-constraint.invariant.rest u e)
    (at_bool c.args.p.now (constraint_grants c.args.class.now c.args.m.now.name.name c.constraint-item.result s t u) c.in-Ok.granted true c.if-granted.true
    (quiet_at c.args.p.now c.args.class.now c.args.m.now.name.name c.constraint-item.result u s _ t _ (Ok c.in-Ok.granted)
    (scope_kept c.args.scope.now c.requires.scope.known k) (k.shows c.args.from c.requires.number) (c.in-Ok.ensures.told u e)))

pub returns-then-granted-clause-stays : goal.returns-then-granted-clause-stays
returns-then-granted-clause-stays c = stays_more c.loop-constraint.invariant.stays c.constraint_grants.ensures.stays

pub loop-constraint-preserved : goal.loop-constraint-preserved
loop-constraint-preserved c =
    let is = c.as_slice-constraint-items.ensures in
    let i = c.loop-constraint.constraint-index in
    let s = scope_in c.args.env.now.pool c.args.scope.now in
    let t = shown c.args.env.now.pool c.args.from in
    let k = c.loop-constraint.invariant.stays.pool in
    record {
      stays = stays_more c.loop-constraint.invariant.stays c.constraint_grants.ensures.stays;
      marks = c.constraint_grants.ensures.marks ∙ c.loop-constraint.invariant.marks;
      rest = λ u e.
          rest_false c.args.p.now (here_at c.args.class.now c.args.m.now c.args.env.now.vars.list) c.args.m.now.sharing i c.constraint-item.result s t u
          (subst (λ (xs : List Constraint). i < length xs) is c.loop-constraint-test.true)
          (c.constraint-item.is ∙ ap (λ (xs : List Constraint). get_or xs i c.constraint-item.result) is)
          (c.loop-constraint.invariant.rest u e)
          (at_bool c.args.p.now (constraint_grants c.args.class.now c.args.m.now.name.name c.constraint-item.result s t u) c.in-Ok.granted false c.if-granted.false
          (quiet_at c.args.p.now c.args.class.now c.args.m.now.name.name c.constraint-item.result u s _ t _ (Ok c.in-Ok.granted)
          (scope_kept c.args.scope.now c.requires.scope.known k) (k.shows c.args.from c.requires.number) (c.in-Ok.ensures.told u e)));
    }

pub returns-clause-told : goal.returns-clause-told
returns-clause-told c = λ u e.
    let is = c.as_slice-constraint-items.ensures in
    let i = c.loop-constraint.constraint-index in
    rest_none c.args.p.now (here_at c.args.class.now c.args.m.now c.args.env.now.vars.list) c.args.m.now.sharing (drop i c.args.m.now.sharing)
    (scope_in c.args.env.now.pool c.args.scope.now) (shown c.args.env.now.pool c.args.from) u
    (sym (ap (λ (xs : List Constraint). drop i xs) is) ∙ drop_of_length-le c.as_slice-constraint-items.result.now {i = i} (search rules))
    (c.loop-constraint.invariant.rest u e)

pub constraint_grants-requires-clause-fits : goal.constraint_grants-requires-clause-fits
constraint_grants-requires-clause-fits c = fits_kept c.requires.scope c.loop-constraint.invariant.stays.pool c.requires.number c.requires.fits
