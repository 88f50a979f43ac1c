use Rattle.jn_heads.proofs.Pledging.{left_fails, right_fails, both_there}
use Rattle.jn_heads.proofs.sides.pledge_of.Goals as goal

pub returns-in-Err-clause-told : goal.returns-in-Err-clause-told
returns-in-Err-clause-told c = left_fails c.args.p.now c.args.class.now c.args.method c.args.constraint.now c.in-Err.fault c.in-Err.ensures.told

pub returns-in-Err-side_of-clause-told : goal.returns-in-Err-side_of-clause-told
returns-in-Err-side_of-clause-told c =
    right_fails c.args.p.now c.args.class.now c.args.method c.args.constraint.now c.in-Ok.from c.in-Err-side_of.fault c.in-Ok.ensures.told c.in-Err-side_of.ensures.told

pub returns-in-Ok-side_of-clause-told : goal.returns-in-Ok-side_of-clause-told
returns-in-Ok-side_of-clause-told c =
    both_there c.args.p.now c.args.class.now c.args.method c.args.constraint.now c.in-Ok.from c.in-Ok-side_of.to c.in-Ok.ensures.told c.in-Ok-side_of.ensures.told
