use Rattle.jn_rule_laws.proofs.Declared.{headers_that_pass}
use Rattle.jn_rule_laws.proofs.headers_that_pass.Goals as goal

pub returns : goal.returns
returns c = headers_that_pass
