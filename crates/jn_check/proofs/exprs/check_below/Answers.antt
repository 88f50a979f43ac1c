use Rattle.std.proofs.Common.{rules, ◌≡◌, length, refl, true, false}
use Rattle.jn_intern.specs.Pools.{scope_in, shown}
use Rattle.jn_intern.proofs.Pools.{keeps_more}
use Rattle.jn_rules.specs.Exprs.{expr_types}
use Rattle.jn_expr.specs.Envs.{here_at}
use Rattle.jn_expr.specs.Values.{typed_in}
use Rattle.jn_expr.proofs.Scopes.{parts_stay}
use Rattle.jn_expr.proofs.CallSteps.{below_at}
use Rattle.jn_check.proofs.Standing.{cut_back}
use Rattle.jn_check.proofs.Telling.{fault_first, below_go, below_went, not_below}
use Rattle.jn_expr.proofs.Typeds.{fits_later}
use Rattle.jn_check.proofs.exprs.check_below.Goals as goal

pub below-requires-clause-t : goal.below-requires-clause-t
below-requires-clause-t c = c.value_of.ensures.stays.pool.has c.args.ty c.requires.number

pub returns-in-Err-clause-told : goal.returns-in-Err-clause-told
returns-in-Err-clause-told c = λ t s n go.
    fault_first {C = Unit {0}} c.args.p.now (expr_types (here_at c.args.class.now c.args.m.now c.args.env.now.vars.list) c.args.e.now (scope_in c.args.env.now.pool c.args.scope.now))
    (below_go c.args.p.now c.args.class.now c.args.m.now t c.args.env.now.vars.list s n c.args.e.now (scope_in c.args.env.now.pool c.args.scope.now) (shown c.args.env.now.pool c.args.ty) go
    c.args.env.now.marks)
    (typed_in c.value_of.new.env.pool c.value_of.new.scope) (λ u. go) c.args.env.now.marks c.value_of.new.env.marks c.args.env.now.marks c.value_of.new.env.marks c.in-Err.fault
    c.in-Err.ensures.told

pub returns-then-not-branch-clause-told : goal.returns-then-not-branch-clause-told
returns-then-not-branch-clause-told c = λ t s n go.
    not_below c.args.p.now c.args.class.now c.args.m.now t c.args.env.now.vars.list s n c.args.e.now (scope_in c.args.env.now.pool c.args.scope.now) (shown c.args.env.now.pool c.args.ty) go
    c.args.env.now.marks {B = Unit {0}} (λ u. go) (typed_in c.value_of.new.env.pool c.value_of.new.scope c.in-Ok.v) c.value_of.new.env.marks c.value_of.new.env.marks c.in-Ok.ensures.told false
    (below_at c.args.p.now (scope_in c.value_of.new.env.pool c.value_of.new.scope) (scope_in c.value_of.new.env.pool c.value_of.new.scope) (shown c.value_of.new.env.pool c.in-Ok.v.ty)
    (shown c.value_of.new.env.pool c.in-Ok.v.ty) (shown c.value_of.new.env.pool c.args.ty) (shown c.args.env.now.pool c.args.ty) c.in_ok-below-in-Ok.field-0 false refl refl
    (c.value_of.ensures.stays.pool.shows c.args.ty c.requires.number) c.if-not-branch.true (c.in_ok-below-in-Ok.ensures.below c.args.p.now (parts_stay c.requires.parts c.value_of.ensures.stays).filled))
    refl c.refused.result c.refused.ensures

pub returns-else-not-branch-clause-told : goal.returns-else-not-branch-clause-told
returns-else-not-branch-clause-told c = λ t s n go.
    below_went c.args.p.now c.args.class.now c.args.m.now t c.args.env.now.vars.list s n c.args.e.now (scope_in c.args.env.now.pool c.args.scope.now) (shown c.args.env.now.pool c.args.ty) go
    c.args.env.now.marks (typed_in c.value_of.new.env.pool c.value_of.new.scope c.in-Ok.v) c.value_of.new.env.marks c.in-Ok.ensures.told true
    (below_at c.args.p.now (scope_in c.value_of.new.env.pool c.value_of.new.scope) (scope_in c.value_of.new.env.pool c.value_of.new.scope) (shown c.value_of.new.env.pool c.in-Ok.v.ty)
    (shown c.value_of.new.env.pool c.in-Ok.v.ty) (shown c.value_of.new.env.pool c.args.ty) (shown c.args.env.now.pool c.args.ty) c.in_ok-below-in-Ok.field-0 true refl refl
    (c.value_of.ensures.stays.pool.shows c.args.ty c.requires.number) c.if-not-branch.false (c.in_ok-below-in-Ok.ensures.below c.args.p.now (parts_stay c.requires.parts c.value_of.ensures.stays).filled))
    refl

pub returns-else-not-branch-clause-kept : goal.returns-else-not-branch-clause-kept
returns-else-not-branch-clause-kept c =
    let n : c.len-count.result ≡ length c.args.scope.now.binds.items = search rules in
    cut_back c.args.scope.now c.value_of.new.scope c.len-count.result _ n c.in-Ok.ensures.value.grows c.truncate.ensures.items

pub returns-in_err-below-in-Ok-clause-stays : goal.returns-in_err-below-in-Ok-clause-stays
returns-in_err-below-in-Ok-clause-stays c = record { same = c.value_of.ensures.stays.same; pool = keeps_more c.value_of.ensures.stays.pool c.below.ensures.keeps }

pub returns-then-not-branch-clause-stays : goal.returns-then-not-branch-clause-stays
returns-then-not-branch-clause-stays c = record { same = c.value_of.ensures.stays.same; pool = keeps_more c.value_of.ensures.stays.pool c.below.ensures.keeps }

pub returns-else-not-branch-clause-stays : goal.returns-else-not-branch-clause-stays
returns-else-not-branch-clause-stays c = record { same = c.value_of.ensures.stays.same; pool = keeps_more c.value_of.ensures.stays.pool c.below.ensures.keeps }

pub below-requires-clause-s_fits : goal.below-requires-clause-s_fits
below-requires-clause-s_fits c = c.in-Ok.ensures.value.fits.type

pub below-requires-clause-t_fits : goal.below-requires-clause-t_fits
below-requires-clause-t_fits c =
    fits_later c.requires.scope c.value_of.ensures.stays.pool c.in-Ok.ensures.value.grows c.in-Ok.ensures.value.scope c.requires.number c.requires.fits
