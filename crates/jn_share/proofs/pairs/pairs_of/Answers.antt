use Rattle.std.proofs.Common.{length}
use Rattle.jn_share.proofs.PairsFound.{pairs_none, pairs_next, pairs_all, below_none}
use Rattle.jn_share.proofs.Walk.{take_one}
use Rattle.jn_share.proofs.pairs.pairs_of.Goals as goal

pub loop-x-init : goal.loop-x-init
loop-x-init c = record {
  below = below_none (length c.args.t.now.known.items) c.new-pairs.result.items c.new-pairs.ensures.items;
  exact = λ p f b. pairs_none p c.args.t.now.known.items c.new-pairs.result.items c.new-pairs.ensures.items;
}

pub loop-x-preserved : goal.loop-x-preserved
loop-x-preserved c = record {
  below = c.in_ok-add_pairs.ensures.below c.loop-x.invariant.below;
  exact = λ p f b. pairs_next p c.args.t.now.known.items c.args.xs.now c.loop-x.x-index c.x-item.result c.loop-x.pairs.items c.add_pairs.new.pairs.items
      (take_one c.args.xs.now c.loop-x.x-index c.x-item.result c.loop-x-test.true c.x-item.is) (c.loop-x.invariant.exact p f b) (c.in_ok-add_pairs.ensures.adds p f b);
}

pub returns-clause-below : goal.returns-clause-below
returns-clause-below c = c.loop-x.invariant.below

pub returns-clause-exact : goal.returns-clause-exact
returns-clause-exact c = λ p f b. pairs_all p c.args.t.now.known.items c.args.xs.now c.loop-x.x-index c.loop-x.pairs.items c.loop-x-test.false (c.loop-x.invariant.exact p f b)
