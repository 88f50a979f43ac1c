use Rattle.jn_reach.specs.Origins.{IsFound}
use Rattle.jn_reach.proofs.Listing.{Listing}
use Rattle.jn_reach.proofs.lists.found.Given as goal

abbrev pub invariant-loop-node : goal.invariant-loop-node
invariant-loop-node l = Listing (IsFound l.origins) l.node l.nodes.items
