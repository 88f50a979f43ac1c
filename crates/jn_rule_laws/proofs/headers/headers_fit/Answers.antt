use Rattle.jn_rule_laws.proofs.OneHeaders.{headers_fit}
use Rattle.jn_rule_laws.proofs.headers.headers_fit.Goals as goal

pub returns : goal.returns
returns c = headers_fit
