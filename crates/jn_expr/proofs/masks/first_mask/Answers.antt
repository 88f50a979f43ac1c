use Rattle.jn_expr.proofs.Masking.{first_next, first_all}
use Rattle.jn_expr.proofs.masks.first_mask.Goals as goal

pub loop-i-preserved : goal.loop-i-preserved
loop-i-preserved c = first_next c.args.p.now c.args.names.now c.args.m c.loop-i.i _ c.loop-i-test.true c.loop-i.found c.next_first-found.result c.next_first-found.ensures c.loop-i.invariant

pub returns : goal.returns
returns c = λ e. first_all c.args.p.now c.args.names.now c.args.m c.loop-i.i c.loop-i.found c.loop-i-test.false c.loop-i.invariant e
