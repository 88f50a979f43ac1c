use Rattle.std.proofs.Common.{take}
use Rattle.jn_base.specs.Atoms.{atom_of}
use Rattle.jn_intern.specs.Pools.{scope_in}
use Rattle.jn_subtype.proofs.Reaching.{NoneReach}
use Rattle.jn_subtype.proofs.below.is_reached.Given as goal

abbrev pub invariant-loop-x : goal.invariant-loop-x
invariant-loop-x l = NoneReach l.table (scope_in l.pool l.scope) (take l.x-index l.xs) (atom_of l.y)
