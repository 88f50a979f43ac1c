use Rattle.std.proofs.Common.{take}
use Rattle.jn_base.specs.Fits.{BindsFit}
use Rattle.jn_subtype.specs.Binds.{binds_in}
use Rattle.rows_classes.proofs.fits.binds_fit.Given as goal

abbrev pub invariant-loop-i : goal.invariant-loop-i
invariant-loop-i l = BindsFit (binds_in l.pool (take l.i l.binds))
