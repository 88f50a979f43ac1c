use Rattle.std.proofs.Common.{take}
use Rattle.jn_base.specs.declared.tree.Program.{Program}
use Rattle.jn_table.specs.Tables.{IsFilled}
use Rattle.jn_intern.specs.Pools.{scope_in}
use Rattle.jn_expr.proofs.Closing.{OpensItself, SoFar}
use Rattle.jn_expr.proofs.closure.close_atoms.Given as goal

abbrev pub invariant-loop-x : goal.invariant-loop-x
invariant-loop-x l = (p : Program) → IsFilled p l.table → SoFar (OpensItself p (scope_in l.pool l.scope)) (take l.x-index l.xs) l.all
