use Rattle.std.proofs.Common.{◌∙◌, ◌<◌, length, ap}
use Rattle.std.proofs.lemmas.Result.{IfOk-weaker}
use Rattle.jn_subtype.specs.Binds.{binds_in}
use Rattle.rows_classes.proofs.FitTests.{atoms_of, both_of, some_of}
use Rattle.rows_classes.proofs.fits.atoms_fit.Goals as goal

pub returns : goal.returns
returns c =
    let some : 0 < length c.args.xs.now = some_of _ _ c.is_empty.ensures c.if-is_empty.false in
    IfOk-weaker c.are_deep.result _ _
    (λ r h t. atoms_of (binds_in c.args.pool.now c.args.binds.now) c.args.xs.now c.index-xs-0.result c.depth-depth.result some c.index-xs-0.is
    (c.depth-depth.ensures ∙ ap length c.in_ok-atom_bound.ensures) c.if-depth-gt255.false (h.0 t) (h.1 t))
    (both_of _ _ c.are_deep.result c.are_deep.ensures.anchored c.are_deep.ensures.deep)
