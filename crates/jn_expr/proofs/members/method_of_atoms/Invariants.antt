use Rattle.std.proofs.Common.{drop}
use Rattle.jn_base.specs.declared.tree.Program.{Program}
use Rattle.jn_intern.specs.Pools.{scope_in}
use Rattle.jn_names.specs.Members.{IsMembersOf}
use Rattle.jn_expr.proofs.Finding.{MethodRest}
use Rattle.jn_expr.proofs.members.method_of_atoms.Given as goal

abbrev pub invariant-loop-x : goal.invariant-loop-x
invariant-loop-x l = (p : Program) → IsMembersOf p l.table l.members → MethodRest p (scope_in l.pool l.scope) (drop l.x-index l.xs) l.xs l.name
