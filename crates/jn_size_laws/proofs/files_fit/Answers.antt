use Rattle.jn_size_laws.proofs.Limits.{files_fit}
use Rattle.jn_size_laws.proofs.files_fit.Goals as goal

pub returns : goal.returns
returns x = files_fit
