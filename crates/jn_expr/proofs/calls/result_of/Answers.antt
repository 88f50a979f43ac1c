use Rattle.std.proofs.Common.{◌≤◌, ℕ, List, length, refl, sym, subst}
use Rattle.jn_intern.specs.Pools.{scope_in, shown}
use Rattle.jn_intern.proofs.Pools.{keeps_more, scope_kept}
use Rattle.jn_expr.specs.Values.{typed_in}
use Rattle.jn_expr.proofs.Scopes.{scope_stays}
use Rattle.jn_expr.proofs.Viewing.{retyped}
use Rattle.jn_expr.proofs.CallDepths.{moved_at, paths_few, result_moved}
use Rattle.jn_expr.proofs.CallSteps.{put_args}
use Rattle.jn_expr.proofs.calls.result_of.Goals as goal

pub plain_of-requires-clause-scope : goal.plain_of-requires-clause-scope
plain_of-requires-clause-scope c = scope_stays c.requires.scope c.in_ok-put.ensures.keeps

pub returns-clause-told : goal.returns-clause-told
returns-clause-told c =
    let p = c.args.p.now in
    retyped p (typed_in c.plain_of.new.env.pool c.args.scope.now) c.args.env.now.marks c.plain_of.new.env.marks c.plain_of.result _ _ _ _
    (put_args (scope_in c.args.env.now.pool c.args.scope.now) c.deref.result.now c.args.call.now.from.items _ c.deref-2.result.now c.args.call.now.paths.items _
    (shown c.args.env.now.pool c.args.call.now.header.result)
    c.in_ok-put.ensures.is.shows c.deref.ensures.value c.requires.call.is_call.from c.deref-2.ensures.value)
    (scope_kept c.args.scope.now c.requires.scope.known c.in_ok-put.ensures.keeps) (c.plain_of.ensures.told p)

pub returns-clause-stays : goal.returns-clause-stays
returns-clause-stays c = record { same = c.plain_of.ensures.stays.same; pool = keeps_more c.in_ok-put.ensures.keeps c.plain_of.ensures.stays.pool }

pub put_in-requires-clause-short : goal.put_in-requires-clause-short
put_in-requires-clause-short c =
    subst (λ (l : List ℕ). length c.deref-2.result.now ≤ length l) (sym c.deref.ensures.value)
    (subst (λ (l : List ℕ). length l ≤ length c.args.call.now.from.items) (sym c.deref-2.ensures.value)
    (paths_few c.args.p.now c.args.env.now.pool (scope_in c.args.env.now.pool c.args.scope.now) c.args.call.now c.requires.scope.fits.binds c.requires.call))

pub put_in-requires-clause-moved : goal.put_in-requires-clause-moved
put_in-requires-clause-moved c =
    moved_at refl c.deref.ensures.value c.deref-2.ensures.value refl
    (result_moved c.args.p.now c.args.env.now.pool (scope_in c.args.env.now.pool c.args.scope.now) c.args.call.now c.requires.scope.fits.binds c.requires.call c.requires.full)
