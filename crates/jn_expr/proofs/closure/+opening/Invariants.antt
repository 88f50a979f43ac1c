use Rattle.std.proofs.Common.{◌+◌, ◌*◌, take}
use Rattle.jn_base.specs.declared.tree.Program.{Program}
use Rattle.jn_base.specs.Atoms.{atom_of}
use Rattle.jn_table.specs.Tables.{IsFilled}
use Rattle.jn_intern.specs.Pools.{scope_in}
use Rattle.jn_sem.specs.Search.{rank}
use Rattle.jn_expr.proofs.Closing.{OpensOne, SoFar}
use Rattle.jn_expr.proofs.closure.+opening.Given as goal

abbrev pub decreases-open : goal.decreases-open
decreases-open l = 3 * rank (scope_in l.pool.now l.scope.now) l.x.now.anchor + 2

abbrev pub decreases-open_type : goal.decreases-open_type
decreases-open_type l = 3 * rank (scope_in l.pool.now l.scope.now) l.x.now.anchor + 1

abbrev pub decreases-open_atoms : goal.decreases-open_atoms
decreases-open_atoms l = 3 * rank (scope_in l.pool.now l.scope.now) l.x.now.anchor

abbrev pub invariant-open_atoms-loop-z : goal.invariant-open_atoms-loop-z
invariant-open_atoms-loop-z l = (p : Program) → IsFilled p l.table → SoFar (OpensOne p (scope_in l.pool l.scope) l.k (atom_of l.x)) (take l.z-index l.zs) l.all
