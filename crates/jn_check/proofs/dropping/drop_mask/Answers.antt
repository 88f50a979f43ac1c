use Rattle.std.proofs.Common.{List, ap, ◌∙◌, subst, sym}
use Rattle.jn_base.specs.Fits.{BindsFit}
use Rattle.jn_intern.specs.declared.scope.Bind.{Bind}
use Rattle.jn_intern.specs.Pools.{scope_in}
use Rattle.jn_subtype.specs.Binds.{binds_in}
use Rattle.jn_rules.specs.Exprs.{masks_at}
use Rattle.jn_rules.specs.Stmts.{with_masks}
use Rattle.jn_check.proofs.DropLaws.{without_notes, with_masks_agree}
use Rattle.jn_check.proofs.dropping.drop_mask.Goals as goal

pub with_masks-requires-clause-fits : goal.with_masks-requires-clause-fits
with_masks-requires-clause-fits c = subst (λ (bs : List Bind). BindsFit (binds_in c.args.pool.now bs)) (sym c.as_slice-2.ensures.value) c.requires.scope.fits.binds

pub returns-clause-is : goal.returns-clause-is
returns-clause-is c = λ p vars n e.
    without_notes p vars n c.args.field (scope_in c.args.pool.now c.args.scope.now) c.args.names.now c.args.path c.masks_at-masks.result c.without-kept.result _ e
    (c.masks_at-masks.ensures ∙ ap (λ (bs : List Bind). masks_at (binds_in c.args.pool.now bs) c.args.path) c.as_slice.ensures.value) c.without-kept.ensures
    (c.in_ok-binds.ensures.is ∙ ap (λ (bs : List Bind). with_masks (binds_in c.args.pool.now bs) c.args.path c.without-kept.result) c.as_slice-2.ensures.value)

pub returns-clause-agree : goal.returns-clause-agree
returns-clause-agree c =
    with_masks_agree (scope_in c.args.pool.now c.args.scope.now) _ c.args.path c.without-kept.result c.requires.variable
    (c.in_ok-binds.ensures.is ∙ ap (λ (bs : List Bind). with_masks (binds_in c.args.pool.now bs) c.args.path c.without-kept.result) c.as_slice-2.ensures.value)
