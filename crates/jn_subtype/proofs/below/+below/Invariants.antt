use Rattle.std.proofs.Common.{take}
use Rattle.jn_intern.specs.Pools.{scope_in}
use Rattle.jn_sem.specs.Search.{rank}
use Rattle.jn_subtype.proofs.Reaching.{NoneBelow}
use Rattle.jn_subtype.proofs.below.+below.Given as goal

abbrev pub decreases-below : goal.decreases-below
decreases-below l = rank (scope_in l.pool.now l.scope.now) l.x.now.anchor

abbrev pub invariant-loop-t : goal.invariant-loop-t
invariant-loop-t l = NoneBelow l.table (scope_in l.pool l.scope) (take l.t-index l.t-items) l.y
