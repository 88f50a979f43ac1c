use Rattle.jn_header.proofs.Heads.{constraint_fails}
use Rattle.jn_header.proofs.headers.judge_constraint.Goals as goal

pub returns-clause-told : goal.returns-clause-told
returns-clause-told c = constraint_fails c.args.p.now c.args.class.now c.args.m.now c.args.constraint.now c.in-Err.fault c.in-Err.ensures.told
