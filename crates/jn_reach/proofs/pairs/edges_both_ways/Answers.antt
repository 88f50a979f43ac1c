use Rattle.jn_reach.proofs.Pairings.{IsGraphOf-both, no_pair_either}
use Rattle.jn_reach.proofs.pairs.edges_both_ways.Goals as goal

pub loop-pair-init : goal.loop-pair-init
loop-pair-init c = no_pair_either _ _ c.in_ok-rows.ensures.exact

pub loop-pair-preserved : goal.loop-pair-preserved
loop-pair-preserved c =
    IsGraphOf-both _ _ _ _ _ _ _ c.loop-pair-test.true c.loop-pair.invariant c.in_ok-add_edge.ensures.added c.in_ok-add_edge-2.ensures.added
