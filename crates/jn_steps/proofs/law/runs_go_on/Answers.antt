use Rattle.jn_steps.proofs.Runs.{go_on, in_parts}
use Rattle.jn_steps.proofs.law.runs_go_on.Goals as goal

pub returns-clause-go_on : goal.returns-clause-go_on
returns-clause-go_on g c = go_on

pub returns-clause-parts : goal.returns-clause-parts
returns-clause-parts g c = in_parts
