use Rattle.jn_lower.proofs.Calling.{no_parts_so}
use Rattle.jn_lower.proofs.law.no_parts_stand.Goals as goal

pub returns : goal.returns
returns c = no_parts_so
