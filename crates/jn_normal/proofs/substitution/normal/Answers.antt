use Rattle.jn_normal.proofs.Replacing.{fits_unmoved}
use Rattle.jn_normal.proofs.substitution.normal.Goals as goal

pub subst-requires-clause-type_fits : goal.subst-requires-clause-type_fits
subst-requires-clause-type_fits c = fits_unmoved _ _ c.requires.type_fits
