use Rattle.jn_lower.proofs.Calling.{last_part_so}
use Rattle.jn_lower.proofs.law.last_part_stands.Goals as goal

pub returns : goal.returns
returns c = last_part_so
