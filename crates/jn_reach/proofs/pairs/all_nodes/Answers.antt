use Rattle.jn_reach.proofs.Edges.{CountsTo-none, CountsTo-more}
use Rattle.jn_reach.proofs.pairs.all_nodes.Goals as goal

pub loop-node-init : goal.loop-node-init
loop-node-init c = CountsTo-none _ c.new-nodes.ensures.items

pub loop-node-preserved : goal.loop-node-preserved
loop-node-preserved c = rw c.in_ok-push.ensures.items (CountsTo-more _ _ c.loop-node.invariant)
