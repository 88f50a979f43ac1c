use Rattle.jn_lower.proofs.Calling.{one_part_so}
use Rattle.jn_lower.proofs.law.one_part_stands.Goals as goal

pub returns : goal.returns
returns c = one_part_so
