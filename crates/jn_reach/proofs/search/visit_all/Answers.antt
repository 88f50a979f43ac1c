use Rattle.jn_reach.proofs.Visits.{Visited-more}
use Rattle.jn_reach.proofs.search.visit_all.Goals as goal

pub loop-node-preserved : goal.loop-node-preserved
loop-node-preserved c =
    Visited-more _ _ _ _ _ _ _ _ _ _ c.loop-node-test.true c.loop-node.invariant c.in_ok-visit_node.ensures.visited
