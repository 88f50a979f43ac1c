use Rattle.jn_reach.proofs.Searches.{iff_true, iff_false, not_when, any_found, none_more, none_all}
use Rattle.jn_share.specs.Parts.{OfThis}
use Rattle.jn_meaning.proofs.getting.some_this.Goals as goal

pub returns-then-is_this : goal.returns-then-is_this
returns-then-is_this c = iff_true (any_found OfThis c.args.xs.now c.loop-x.x-index c.x-item.result c.loop-x-test.true c.x-item.is (c.is_this.ensures.0 c.if-is_this.true))

pub loop-x-preserved : goal.loop-x-preserved
loop-x-preserved c =
    none_more OfThis c.args.xs.now c.loop-x.x-index c.x-item.result c.loop-x-test.true c.x-item.is (not_when c.if-is_this.false c.is_this.ensures) c.loop-x.invariant

pub returns : goal.returns
returns c = iff_false (none_all OfThis c.args.xs.now c.loop-x.x-index c.loop-x-test.false c.loop-x.invariant)
