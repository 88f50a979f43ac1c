use Rattle.std.proofs.Common.{rules}
use Rattle.jn_reach.proofs.Firsts.{AreOrigins-none, AreOrigins-closed, AreOrigins-more}
use Rattle.jn_reach.proofs.search.origins.Goals as goal

pub loop-start-init : goal.loop-start-init
loop-start-init c = AreOrigins-none _ _ (c.in_ok-origins.ensures.items_if_clones_equal (λ y e. search rules))

pub spread-requires-clause-closed : goal.spread-requires-clause-closed
spread-requires-clause-closed c = AreOrigins-closed _ _ _ c.loop-start.invariant

pub loop-start-preserved : goal.loop-start-preserved
loop-start-preserved c = AreOrigins-more _ _ _ _ _ _ c.loop-start-test.true c.loop-start.invariant c.in_ok-spread.ensures.spread
