use Rattle.jn_link.proofs.Joining.{joined_are_images}
use Rattle.jn_link.proofs.law.joined_are_images.Goals as goal

pub returns : goal.returns
returns c = joined_are_images
