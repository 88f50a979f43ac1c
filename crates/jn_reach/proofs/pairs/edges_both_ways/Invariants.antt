use Rattle.std.proofs.Common.{take}
use Rattle.jn_reach.specs.Equivalent.{Either}
use Rattle.jn_reach.specs.Pairs.{IsPair, IsGraphOf}
use Rattle.jn_reach.proofs.pairs.edges_both_ways.Given as goal

abbrev pub invariant-loop-pair : goal.invariant-loop-pair
invariant-loop-pair l = IsGraphOf l.count (Either (IsPair (take l.pair-index l.pairs))) l.rows.items
