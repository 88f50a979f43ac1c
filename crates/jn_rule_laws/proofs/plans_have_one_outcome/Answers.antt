use Rattle.jn_rule_laws.proofs.Replies.{one_outcome}
use Rattle.jn_rule_laws.proofs.plans_have_one_outcome.Goals as goal

pub returns : goal.returns
returns c start p ok its x = one_outcome p ok its x
