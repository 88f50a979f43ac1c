use Rattle.std.proofs.Common.{rules}
use Rattle.jn_header.proofs.Rooting.{hold_more, fails_here, hold_all}
use Rattle.jn_header.proofs.constraints.some_fails.Goals as goal

pub returns-then-not-branch : goal.returns-then-not-branch
returns-then-not-branch c = λ p b cs filled shared n each.
    fails_here p c.args.class.now b cs c.args.pledges.now each c.loop-pledge.pledge-index c.pledge-item.result c.loop-pledge-test.true c.pledge-item.is c.in_ok-pledge_holds.field-0 (search rules)
    (λ k f g. c.in_ok-pledge_holds.ensures p k filled shared n f g)

pub loop-pledge-preserved : goal.loop-pledge-preserved
loop-pledge-preserved c = λ p b cs filled shared n each.
    hold_more p c.args.class.now b cs c.args.pledges.now each c.loop-pledge.pledge-index c.pledge-item.result c.loop-pledge-test.true c.pledge-item.is c.in_ok-pledge_holds.field-0 (search rules)
    (c.loop-pledge.invariant p b cs filled shared n each) (λ k f g. c.in_ok-pledge_holds.ensures p k filled shared n f g)

pub returns : goal.returns
returns c = λ p b cs filled shared n each.
    hold_all p c.args.class.now b cs c.args.pledges.now each c.loop-pledge.pledge-index (search rules) (c.loop-pledge.invariant p b cs filled shared n each)
