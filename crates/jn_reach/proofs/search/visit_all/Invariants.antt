use Rattle.std.proofs.Common.{take}
use Rattle.jn_reach.specs.Visited.{Visited}
use Rattle.jn_reach.proofs.search.visit_all.Given as goal

abbrev pub invariant-loop-node : goal.invariant-loop-node
invariant-loop-node l =
    Visited l.start (take l.node-index l.nodes) l.initial.origins.items l.initial.waiting.items l.origins.items l.waiting.items
