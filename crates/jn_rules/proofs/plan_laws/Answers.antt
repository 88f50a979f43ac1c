use Rattle.jn_rules.proofs.PlanLaws.{plan_laws}
use Rattle.jn_rules.proofs.plan_laws.Goals as goal

pub returns : goal.returns
returns c start p = plan_laws _ _ p
