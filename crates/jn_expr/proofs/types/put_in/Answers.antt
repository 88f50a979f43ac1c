use Rattle.std.proofs.Common.{◌∙◌, take, length}
use Rattle.jn_intern.specs.Pools.{scope_in, shown}
use Rattle.jn_sem.specs.Normal.{swapped}
use Rattle.jn_sem.proofs.NormalTypes.{type_subst_is}
use Rattle.jn_expr.proofs.Fitting.{both_ok, put_front, moved_front}
use Rattle.std.proofs.lemmas.Result.{IfOk-weaker}
use Rattle.jn_sem.proofs.NormalTypes.{type_subst_fits}
use Rattle.jn_expr.proofs.Typeds.{written_kept}
use Rattle.jn_expr.proofs.types.put_in.Goals as goal

pub returns-clause-is : goal.returns-clause-is
returns-clause-is c =
    both_ok c.subst.result (λ u n h. record {
      number = n;
      shows = (type_subst_is (scope_in c.args.pool.now c.args.scope.now) (swapped (take (length c.args.to.now) c.args.from.now) c.args.to.now) (shown c.args.pool.now c.args.t)
          (shown c.subst.new.pool u)).0 h
          ∙ put_front (scope_in c.args.pool.now c.args.scope.now) c.args.from.now c.args.to.now (shown c.args.pool.now c.args.t);
    }) c.subst.ensures.number c.subst.ensures.subst

pub subst-requires-clause-type_fits : goal.subst-requires-clause-type_fits
subst-requires-clause-type_fits c =
    moved_front (scope_in c.args.pool.now c.args.scope.now) c.args.from.now c.args.to.now (shown c.args.pool.now c.args.t) c.requires.moved

pub returns-clause-fits : goal.returns-clause-fits
returns-clause-fits c =
    let s = scope_in c.args.pool.now c.args.scope.now in
    let f = swapped (take (length c.args.to.now) c.args.from.now) c.args.to.now in
    IfOk-weaker c.subst.result _ _
    (λ u h. written_kept c.requires.scope c.subst.ensures.keeps
    (type_subst_fits s f (shown c.args.pool.now c.args.t) (shown c.subst.new.pool u) c.requires.scope.fits.binds
    (moved_front s c.args.from.now c.args.to.now (shown c.args.pool.now c.args.t) c.requires.moved) h))
    c.subst.ensures.subst
