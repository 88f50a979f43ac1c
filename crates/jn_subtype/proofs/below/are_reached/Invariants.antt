use Rattle.std.proofs.Common.{take, map}
use Rattle.jn_base.specs.Atoms.{atom_of}
use Rattle.jn_intern.specs.Pools.{scope_in}
use Rattle.jn_subtype.proofs.Reaching.{EachReached}
use Rattle.jn_subtype.proofs.below.are_reached.Given as goal

abbrev pub invariant-loop-y : goal.invariant-loop-y
invariant-loop-y l = EachReached l.table (scope_in l.pool l.scope) (map atom_of l.xs) (take l.y-index l.ys)
