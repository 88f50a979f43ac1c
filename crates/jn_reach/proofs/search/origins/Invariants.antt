use Rattle.std.proofs.Common.{take}
use Rattle.jn_reach.specs.Origins.{AreOrigins}
use Rattle.jn_reach.proofs.search.origins.Given as goal

abbrev pub invariant-loop-start : goal.invariant-loop-start
invariant-loop-start l = AreOrigins l.edges (take l.start-index l.starts) l.origins.items
