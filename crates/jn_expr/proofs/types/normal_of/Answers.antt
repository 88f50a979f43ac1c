use Rattle.jn_intern.specs.Pools.{scope_in, shown}
use Rattle.jn_sem.specs.Normal.{same_path}
use Rattle.jn_sem.proofs.NormalTypes.{type_subst_is}
use Rattle.jn_expr.proofs.Fitting.{both_ok}
use Rattle.std.proofs.Common.{subst, sym, refl}
use Rattle.std.proofs.lemmas.Result.{IfOk-weaker}
use Rattle.jn_base.specs.Fits.{TypeFits}
use Rattle.jn_sem.proofs.NormalTypes.{normal_fits}
use Rattle.jn_expr.proofs.Typeds.{written_kept}
use Rattle.jn_intern.proofs.Pools.{scope_kept}
use Rattle.jn_expr.proofs.CallDepths.{normal_deep, deep_moved}
use Rattle.jn_expr.proofs.types.normal_of.Goals as goal

pub returns-clause-is : goal.returns-clause-is
returns-clause-is c =
    both_ok c.normal.result (λ u n h. record {
      number = n;
      shows = (type_subst_is (scope_in c.args.pool.now c.args.scope.now) same_path (shown c.args.pool.now c.args.t) (shown c.normal.new.pool u)).0 h;
    }) c.normal.ensures.number c.normal.ensures.normal

pub returns-clause-fits : goal.returns-clause-fits
returns-clause-fits c =
    let s = scope_in c.args.pool.now c.args.scope.now in
    IfOk-weaker c.normal.result _ _
    (λ u h. written_kept c.requires.scope c.normal.ensures.keeps
    (normal_fits s (shown c.args.pool.now c.args.t) (shown c.normal.new.pool u) c.requires.scope.fits.binds
    (subst (TypeFits s) c.show.ensures (c.in_ok-type_fits.ensures c.if-not-branch.false)) h))
    c.normal.ensures.normal

pub returns-clause-deep : goal.returns-clause-deep
returns-clause-deep c =
    let s = scope_in c.args.pool.now c.args.scope.now in
    let t = shown c.args.pool.now c.args.t in
    IfOk-weaker c.normal.result _ _
    (λ u h x m.
    deep_moved (sym (scope_kept c.args.scope.now c.requires.scope.known c.normal.ensures.keeps)) (sym ((type_subst_is s same_path t (shown c.normal.new.pool u)).0 h)) refl
    (normal_deep s t x c.requires.scope.fits.binds (subst (TypeFits s) c.show.ensures (c.in_ok-type_fits.ensures c.if-not-branch.false)) m))
    c.normal.ensures.normal
