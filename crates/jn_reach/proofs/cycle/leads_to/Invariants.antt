use Rattle.std.proofs.Common.{ℕ}
use Rattle.jn_reach.specs.Graph.{HasEdge}
use Rattle.jn_reach.proofs.Searches.{NoneBefore}
use Rattle.jn_reach.proofs.cycle.leads_to.Given as goal

abbrev pub invariant-loop-node : goal.invariant-loop-node
invariant-loop-node l = NoneBefore (λ (q : ℕ). HasEdge l.edges q l.to) l.nodes l.node-index
