use Rattle.jn_size_laws.proofs.Arguments.{operands_of}
use Rattle.jn_size_laws.proofs.operands_fit.Goals as goal

pub returns : goal.returns
returns x = operands_of
