use Rattle.jn_size_laws.proofs.Limits.{files_within}
use Rattle.jn_size_laws.proofs.files_within.Goals as goal

pub returns : goal.returns
returns x = files_within
