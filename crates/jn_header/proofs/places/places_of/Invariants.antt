use Rattle.std.proofs.Common.{nat_eq}
use Rattle.indexmap.specs.IndexMap.{get}
use Rattle.jn_header.proofs.Placing.{PlacedTo}
use Rattle.jn_header.proofs.places.places_of.Given as goal

abbrev pub invariant-loop-k : goal.invariant-loop-k
invariant-loop-k l = PlacedTo l.heads l.k (get nat_eq l.places)
