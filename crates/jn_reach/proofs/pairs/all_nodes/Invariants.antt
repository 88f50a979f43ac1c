use Rattle.jn_reach.proofs.Edges.{CountsTo}
use Rattle.jn_reach.proofs.pairs.all_nodes.Given as goal

abbrev pub invariant-loop-node : goal.invariant-loop-node
invariant-loop-node l = CountsTo l.node l.nodes.items
