use Rattle.jn_lower.proofs.Finishing.{body_so}
use Rattle.jn_lower.proofs.ending.body_stands.Goals as goal

pub returns : goal.returns
returns c = body_so
