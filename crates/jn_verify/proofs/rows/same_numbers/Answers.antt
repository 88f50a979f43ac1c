use Rattle.std.proofs.Common.{arith}
use Rattle.jn_verify.proofs.Lists.{first_is_longer, second_is_longer, both_end}
use Rattle.jn_verify.proofs.rows.same_numbers.Goals as goal

pub returns-then-at-ys : goal.returns-then-at-ys
returns-then-at-ys c = first_is_longer c.args.xs.now c.args.ys.now c.loop-at.at (omega arith) (omega arith) c.loop-at.invariant.rest

pub returns-then-at-ys-2 : goal.returns-then-at-ys-2
returns-then-at-ys-2 c = second_is_longer c.args.xs.now c.args.ys.now c.loop-at.at (omega arith) (omega arith) c.loop-at.invariant.rest

pub returns : goal.returns
returns c = both_end c.args.xs.now c.args.ys.now c.loop-at.at (omega arith) (omega arith) c.loop-at.invariant.rest
