use Rattle.jn_rules.proofs.PlanLaws.{plan_sure}
use Rattle.jn_rules.proofs.plans_are_sure.Goals as goal

pub returns : goal.returns
returns c start p x = plan_sure _ p x
