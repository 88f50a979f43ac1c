use Rattle.std.proofs.Common.{drop}
use Rattle.jn_base.specs.declared.tree.Program.{Program}
use Rattle.jn_intern.specs.Pools.{scope_in}
use Rattle.jn_names.specs.Members.{IsMembersOf}
use Rattle.jn_expr.proofs.Finding.{FieldRest}
use Rattle.jn_expr.proofs.members.field_of_atoms.Given as goal

abbrev pub invariant-loop-x : goal.invariant-loop-x
invariant-loop-x l = (p : Program) → IsMembersOf p l.table l.members → FieldRest p (scope_in l.pool l.scope) (drop l.x-index l.xs) l.xs l.name
