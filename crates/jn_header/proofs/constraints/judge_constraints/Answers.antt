use Rattle.jn_header.proofs.Judging.{constraints_refused}
use Rattle.jn_header.proofs.constraints.judge_constraints.Goals as goal

pub returns-in-Some : goal.returns-in-Some
returns-in-Some c = constraints_refused c.args.p.now c.requires.limits _ c.in-Some.refusal c.in-Some.is c.in_ok-refusal.ensures
