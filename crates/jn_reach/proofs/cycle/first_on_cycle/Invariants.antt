use Rattle.std.proofs.Common.{ℕ, ◌<◌}
use Rattle.jn_reach.specs.Chain.{Steps}
use Rattle.jn_reach.specs.Graph.{HasEdge}
use Rattle.jn_reach.proofs.cycle.first_on_cycle.Given as goal

abbrev pub invariant-loop-node : goal.invariant-loop-node
invariant-loop-node l = (k : ℕ) → k < l.node → Steps (HasEdge l.edges) k k → ⊥
