use Rattle.jn_header.proofs.Judging.{members_refused}
use Rattle.jn_header.proofs.classes.judge_members.Goals as goal

pub returns-in-Some-clause-told : goal.returns-in-Some-clause-told
returns-in-Some-clause-told c = members_refused c.args.p.now c.requires.types _ c.in-Some.refusal c.in-Some.is c.in_ok-refusal-in-Ok.ensures
