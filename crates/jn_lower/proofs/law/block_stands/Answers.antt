use Rattle.jn_lower.proofs.Statements.{block_so}
use Rattle.jn_lower.proofs.law.block_stands.Goals as goal

pub returns : goal.returns
returns c = block_so
