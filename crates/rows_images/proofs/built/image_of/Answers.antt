use Rattle.rows_images.proofs.Accepting.{image_told}
use Rattle.rows_images.proofs.built.image_of.Goals as goal

pub returns : goal.returns
returns c = image_told c.args.p.now c.args.w.now _ _ c.as_slice.ensures.value c.requires.accepted c.requires.world c.image.ensures
