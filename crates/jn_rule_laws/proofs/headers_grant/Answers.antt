use Rattle.jn_rule_laws.proofs.HeaderLaws.{grants_of}
use Rattle.jn_rule_laws.proofs.headers_grant.Goals as goal

pub returns : goal.returns
returns c p h s t u = grants_of p h s t u
