use Rattle.jn_laws.proofs.Params.{params_fit}
use Rattle.jn_laws.proofs.written.params_fit.Goals as goal

pub returns : goal.returns
returns c = params_fit
