use Rattle.jn_lower.proofs.Calling.{post_so}
use Rattle.jn_lower.proofs.law.post_stands.Goals as goal

pub returns : goal.returns
returns c = post_so
