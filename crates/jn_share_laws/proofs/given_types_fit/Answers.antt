use Rattle.jn_share_laws.proofs.Fitting.{fit}
use Rattle.jn_share_laws.proofs.given_types_fit.Goals as goal

pub returns : goal.returns
returns c p t types g = fit p t types g
