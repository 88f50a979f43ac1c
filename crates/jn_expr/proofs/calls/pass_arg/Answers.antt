use Rattle.std.proofs.Common.{◌∙◌, refl, false, true, sym, ap, subst}
use Rattle.jn_base.specs.declared.types.Ty.{Ty}
use Rattle.jn_base.specs.Scopes.{Scope as TypeScope}
use Rattle.jn_intern.specs.Pools.{scope_in, shown}
use Rattle.jn_intern.proofs.Pools.{keeps_more, scope_kept}
use Rattle.jn_rules.specs.Exprs.{put_in}
use Rattle.jn_expr.specs.Envs.{here_at}
use Rattle.jn_expr.specs.Passing.{IsPassing}
use Rattle.jn_expr.specs.Calling.{CallFits}
use Rattle.jn_expr.specs.Values.{typed_in}
use Rattle.jn_expr.proofs.Scopes.{scope_stays}
use Rattle.jn_expr.proofs.CallSteps.{below_at, arg_refused, arg_told, arg_path}
use Rattle.jn_expr.proofs.CallDepths.{call_same, paths_few, next_moved, next_param, call_passed}
use Rattle.jn_expr.proofs.Typeds.{fits_kept, typed_kept, passed_fits}
use Rattle.jn_expr.proofs.calls.pass_arg.Goals as goal

pub below-requires-clause-scope : goal.below-requires-clause-scope
below-requires-clause-scope c = scope_stays c.requires.scope c.in_ok-want.ensures.keeps

pub path_of-requires-clause-scope : goal.path_of-requires-clause-scope
path_of-requires-clause-scope c = scope_stays c.requires.scope (keeps_more c.in_ok-want.ensures.keeps c.below.ensures.keeps)

pub returns-in_err-below-clause-stays : goal.returns-in_err-below-clause-stays
returns-in_err-below-clause-stays c = record { same = refl; pool = keeps_more c.in_ok-want.ensures.keeps c.below.ensures.keeps }

pub returns-then-not-branch-clause-stays : goal.returns-then-not-branch-clause-stays
returns-then-not-branch-clause-stays c = record { same = refl; pool = keeps_more c.in_ok-want.ensures.keeps c.below.ensures.keeps }

pub returns-in_err-path-clause-stays : goal.returns-in_err-path-clause-stays
returns-in_err-path-clause-stays c = record { same = refl; pool = keeps_more c.in_ok-want.ensures.keeps c.below.ensures.keeps }

pub returns-in_err-push-clause-stays : goal.returns-in_err-push-clause-stays
returns-in_err-push-clause-stays c = record { same = refl; pool = keeps_more c.in_ok-want.ensures.keeps c.below.ensures.keeps }

pub returns-clause-stays : goal.returns-clause-stays
returns-clause-stays c = record { same = refl; pool = keeps_more c.in_ok-want.ensures.keeps c.below.ensures.keeps }

pub returns-then-not-branch-clause-told : goal.returns-then-not-branch-clause-told
returns-then-not-branch-clause-told c = λ x go e.
    let p = c.args.p.now in
    let filled = c.requires.parts.filled in
    arg_refused p (here_at c.args.class.now c.args.m.now c.args.env.now.vars.list) c.args.call.now.from.items x c.args.place (typed_in c.args.env.now.pool c.args.scope.now c.args.v)
    c.args.call.now.paths.items go c.args.env.now.marks {B = Unit {0}}
    (below_at p (scope_in c.wanted.new.pool c.args.scope.now) (scope_in c.args.env.now.pool c.args.scope.now) (shown c.wanted.new.pool c.args.v.ty) (shown c.args.env.now.pool c.args.v.ty)
    (shown c.wanted.new.pool c.in_ok-want.want) (put_in (scope_in c.args.env.now.pool c.args.scope.now) c.args.call.now.from.items c.args.call.now.paths.items x.ty)
    c.in_ok-below.field-0 false (scope_kept c.args.scope.now c.requires.scope.known c.in_ok-want.ensures.keeps) (c.in_ok-want.ensures.keeps.shows c.args.v.ty c.requires.number)
    (c.in_ok-want.ensures.is x e).shows c.if-not-branch.true (c.in_ok-below.ensures.below p filled))
    c.refused.result c.refused.ensures (λ u. go c.args.call.now.paths.items (scope_in c.below.new.pool c.args.scope.now)) c.args.env.now.marks

pub returns-clause-told : goal.returns-clause-told
returns-clause-told c = λ x go e.
    let p = c.args.p.now in
    let filled = c.requires.parts.filled in
    arg_told p (here_at c.args.class.now c.args.m.now c.args.env.now.vars.list) c.args.call.now.from.items x c.args.place (typed_in c.args.env.now.pool c.args.scope.now c.args.v)
    c.args.call.now.paths.items go c.args.env.now.marks
    (below_at p (scope_in c.wanted.new.pool c.args.scope.now) (scope_in c.args.env.now.pool c.args.scope.now) (shown c.wanted.new.pool c.args.v.ty) (shown c.args.env.now.pool c.args.v.ty)
    (shown c.wanted.new.pool c.in_ok-want.want) (put_in (scope_in c.args.env.now.pool c.args.scope.now) c.args.call.now.from.items c.args.call.now.paths.items x.ty)
    c.in_ok-below.field-0 true (scope_kept c.args.scope.now c.requires.scope.known c.in_ok-want.ensures.keeps) (c.in_ok-want.ensures.keeps.shows c.args.v.ty c.requires.number)
    (c.in_ok-want.ensures.is x e).shows c.if-not-branch.false (c.in_ok-below.ensures.below p filled))
    c.in_ok-path.path (scope_in c.below.new.pool c.path_of.new.scope) c.push.new.self.items
    (arg_path c.args.env.now.pool c.below.new.pool c.args.scope.now c.path_of.new.scope c.args.v.ty c.type_passed-passed.result c.in_ok-want.want
    (put_in (scope_in c.args.env.now.pool c.args.scope.now) c.args.call.now.from.items c.args.call.now.paths.items x.ty) c.args.v.path c.in_ok-path.path
    c.requires.scope c.requires.number (keeps_more c.in_ok-want.ensures.keeps c.below.ensures.keeps) c.type_passed-passed.ensures.is
    (c.below.ensures.keeps.shows c.in_ok-want.want c.in_ok-want.ensures.number ∙ (c.in_ok-want.ensures.is x e).shows) c.in_ok-path.ensures)
    c.in_ok-push.ensures.items

pub below-requires-clause-s_fits : goal.below-requires-clause-s_fits
below-requires-clause-s_fits c = fits_kept c.requires.scope c.in_ok-want.ensures.keeps c.requires.number c.requires.fits.type

pub path_of-requires-clause-fits : goal.path_of-requires-clause-fits
path_of-requires-clause-fits c =
    passed_fits (scope_in c.below.new.pool c.args.scope.now) (shown c.below.new.pool c.args.v.ty) (shown c.below.new.pool c.in_ok-want.want)
    (shown c.below.new.pool c.type_passed-passed.result) c.type_passed-passed.ensures.is
    (fits_kept c.requires.scope (keeps_more c.in_ok-want.ensures.keeps c.below.ensures.keeps) c.requires.number c.requires.fits.type)
    (fits_kept (scope_stays c.requires.scope c.in_ok-want.ensures.keeps) c.below.ensures.keeps c.in_ok-want.ensures.number c.in_ok-want.ensures.fits)

pub wanted-requires-clause-short : goal.wanted-requires-clause-short
wanted-requires-clause-short c =
    paths_few c.args.p.now c.args.env.now.pool (scope_in c.args.env.now.pool c.args.scope.now) c.args.call.now c.requires.scope.fits.binds c.requires.call

pub wanted-requires-clause-moved : goal.wanted-requires-clause-moved
wanted-requires-clause-moved c =
    next_moved c.args.p.now c.args.env.now.pool (scope_in c.args.env.now.pool c.args.scope.now) c.args.call.now c.requires.scope.fits.binds c.requires.call c.requires.next

pub returns-clause-fits : goal.returns-clause-fits
returns-clause-fits c =
    let p = c.args.p.now in
    let pool = c.below.new.pool in
    let before = c.args.scope.now in
    let call = c.args.call.now in
    let want_keeps = c.in_ok-want.ensures.keeps in
    let below_keeps = c.below.ensures.keeps in
    let k = keeps_more want_keeps below_keeps in
    let s = scope_stays c.requires.scope k in
    let s1 = scope_stays c.requires.scope want_keeps in
    let f : CallFits p pool (scope_in pool before) call = call_same c.requires.scope k c.requires.call in
    let x0 = next_param p c.args.env.now.pool (scope_in c.args.env.now.pool before) call c.requires.scope.fits.binds c.requires.call c.requires.next in
    let x = next_param p pool (scope_in pool before) call s.fits.binds f c.requires.next in
    call_passed p pool before c.path_of.new.scope call _ (shown pool c.args.v.ty) (shown pool c.in_ok-want.want) c.args.v.path c.in_ok-path.path f s x
    (below_keeps.shows c.in_ok-want.want c.in_ok-want.ensures.number
    ∙ ((c.in_ok-want.ensures.is x.param x.got).shows
    ∙ ap (λ (q : TypeScope). put_in q call.from.items call.paths.items x.param.ty) (sym (scope_kept before c.requires.scope.known k))))
    (typed_kept c.requires.scope k c.requires.number c.requires.fits) (fits_kept s1 below_keeps c.in_ok-want.ensures.number c.in_ok-want.ensures.fits)
    (below_at p (scope_in c.wanted.new.pool before) (scope_in pool before) (shown c.wanted.new.pool c.args.v.ty) (shown pool c.args.v.ty)
    (shown c.wanted.new.pool c.in_ok-want.want) (shown pool c.in_ok-want.want) c.in_ok-below.field-0 true (sym (scope_kept before s1.known below_keeps))
    (sym (below_keeps.shows c.args.v.ty (want_keeps.has c.args.v.ty c.requires.number))) (sym (below_keeps.shows c.in_ok-want.want c.in_ok-want.ensures.number))
    c.if-not-branch.false (c.in_ok-below.ensures.below p c.requires.parts.filled))
    (subst (λ (t : Ty). IsPassing pool before c.path_of.new.scope t c.args.v.path c.in_ok-path.path) c.type_passed-passed.ensures.is c.in_ok-path.ensures)
    refl refl c.in_ok-push.ensures.items
