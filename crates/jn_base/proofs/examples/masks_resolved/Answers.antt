use Rattle.jn_base.proofs.ResolveShown.{masks_shown}
use Rattle.jn_base.proofs.examples.masks_resolved.Goals as goal

pub returns : goal.returns
returns c = masks_shown
