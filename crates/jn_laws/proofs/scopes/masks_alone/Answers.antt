use Rattle.jn_laws.proofs.AlikeScopes.{masks_alone}
use Rattle.jn_laws.proofs.scopes.masks_alone.Goals as goal

pub returns : goal.returns
returns c = masks_alone
