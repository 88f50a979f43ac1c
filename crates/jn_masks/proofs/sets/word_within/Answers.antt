use Rattle.std.proofs.lemmas.Bool.{eqb-true, eq-eqb}
use Rattle.jn_masks.proofs.Bits.{none_missing}
use Rattle.jn_masks.proofs.sets.word_within.Goals as goal

pub returns : goal.returns
returns c =
    let m = none_missing c.args.a c.args.b c.ranges.a.fits c.ranges.b.fits in
    (λ t. m.0 (eqb-true _ 0 t), λ h. eq-eqb _ 0 (m.1 h))
