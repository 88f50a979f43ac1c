use Rattle.jn_lower.proofs.Calling.{field_so}
use Rattle.jn_lower.proofs.law.field_stands.Goals as goal

pub returns : goal.returns
returns c = field_so
