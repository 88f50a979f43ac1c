use Rattle.std.proofs.Common.{[], All, take}
use Rattle.jn_base.specs.declared.tree.Program.{Program}
use Rattle.jn_table.specs.Tables.{IsFilled}
use Rattle.jn_intern.specs.Pools.{scope_in}
use Rattle.jn_subtype.specs.Older.{IsOlder}
use Rattle.jn_subtype.specs.Turns.{Adds}
use Rattle.jn_subtype.proofs.Addings.{FromOne}
use Rattle.jn_subtype.proofs.EnterForms.{Makes}
use Rattle.jn_subtype.proofs.enters.by_atoms.Given as goal

abbrev pub invariant-loop-z : goal.invariant-loop-z
invariant-loop-z l = record {
  found : (p : Program) → IsFilled p l.table → Adds (FromOne (Makes p (scope_in l.pool l.scope) l.k l.w) (take l.z-index l.atoms)) [] l.all.items;
  older : All (IsOlder (scope_in l.pool l.scope) l.w) l.all.items;
}
