use Rattle.jn_rule_laws.proofs.OneHeaders.{headers_are_one}
use Rattle.jn_rule_laws.proofs.headers.headers_are_one.Goals as goal

pub returns : goal.returns
returns c = headers_are_one
