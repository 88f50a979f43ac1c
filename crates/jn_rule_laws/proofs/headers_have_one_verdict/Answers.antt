use Rattle.jn_rule_laws.proofs.Verdicts.{one_headers}
use Rattle.jn_rule_laws.proofs.headers_have_one_verdict.Goals as goal

pub returns : goal.returns
returns c p once its = one_headers p once its
