use Rattle.jn_drive.proofs.Building.{image_told}
use Rattle.jn_drive.proofs.run.image_of.Goals as goal

pub returns : goal.returns
returns c = image_told c.args.program.now c.args.world.now _ _ c.as_slice.ensures.value c.requires.passes c.requires.world c.image.ensures
