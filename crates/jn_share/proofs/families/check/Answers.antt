use Rattle.jn_share.proofs.Refusing.{pass_none, pass_more, pass_all, first_is}
use Rattle.jn_share.proofs.families.check.Goals as goal

pub loop-x-init : goal.loop-x-init
loop-x-init c = λ p f e. pass_none p c.args.xs.now e

pub loop-x-preserved : goal.loop-x-preserved
loop-x-preserved c = λ p f e.
    pass_more p c.args.xs.now e c.loop-x.x-index c.x-item.result c.in_ok-is_refused.field-0 c.loop-x-test.true c.x-item.is c.if-branch.false
    (λ X g. c.in_ok-is_refused.ensures p X f g) (c.loop-x.invariant p f e)

pub returns-then-branch : goal.returns-then-branch
returns-then-branch c = λ p f e.
    first_is p c.args.xs.now e c.loop-x.x-index c.x-item.result c.in_ok-is_refused.field-0 c.refusal.result c.loop-x-test.true c.x-item.is c.if-branch.true
    (λ X g. c.in_ok-is_refused.ensures p X f g) (c.loop-x.invariant p f e) c.refusal.ensures

pub returns : goal.returns
returns c = λ p f e. pass_all p c.args.xs.now e c.loop-x.x-index c.loop-x-test.false (c.loop-x.invariant p f e)
