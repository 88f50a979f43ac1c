use Rattle.jn_rule_laws.proofs.Replies.{plan_gives}
use Rattle.jn_rule_laws.proofs.plans_give.Goals as goal

pub returns : goal.returns
returns c start p x = plan_gives p x
