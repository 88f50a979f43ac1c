use Rattle.jn_size_laws.proofs.Bytes.{codes_short}
use Rattle.jn_size_laws.proofs.codes_are_short.Goals as goal

pub returns : goal.returns
returns x = codes_short
