use Rattle.std.proofs.Common.{◌+◌, length}
use Rattle.jn_reach.specs.Visited.{unfound}
use Rattle.jn_reach.proofs.Spreading.{Searching}
use Rattle.jn_reach.proofs.search.spread.Given as goal

abbrev pub invariant-loop-node : goal.invariant-loop-node
invariant-loop-node l = Searching l.edges l.start l.fn.origins.items l.origins.items l.waiting.items

abbrev pub decreases-loop-node : goal.decreases-loop-node
decreases-loop-node l = length l.waiting.items + unfound l.origins.items
