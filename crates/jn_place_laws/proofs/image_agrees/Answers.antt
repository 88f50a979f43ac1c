use Rattle.jn_place_laws.proofs.Images.{image_agrees_so}
use Rattle.jn_place_laws.proofs.image_agrees.Goals as goal

pub returns : goal.returns
returns c = image_agrees_so
