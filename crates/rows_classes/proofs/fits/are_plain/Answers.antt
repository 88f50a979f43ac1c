use Rattle.std.proofs.Common.{◌∙◌, sym}
use Rattle.rows_classes.proofs.FitTests.{plain_of}
use Rattle.rows_classes.proofs.fits.are_plain.Goals as goal

pub returns-in-Root : goal.returns-in-Root
returns-in-Root c _ = plain_of c.args.xs.now c.index-xs-0.result _ c.if-xs-ne1.false (sym c.len.ensures ∙ c.if-len-ne0.false) c.in-Root.is
