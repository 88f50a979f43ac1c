use Rattle.std.proofs.Common.{[], All, take}
use Rattle.jn_base.specs.declared.tree.Program.{Program}
use Rattle.jn_table.specs.Tables.{IsFilled}
use Rattle.jn_intern.specs.Pools.{scope_in}
use Rattle.jn_subtype.specs.Older.{IsOlder}
use Rattle.jn_subtype.specs.Turns.{Adds, SpreadEnters}
use Rattle.jn_subtype.proofs.Addings.{FromOne}
use Rattle.jn_subtype.proofs.turns.turns.Given as goal

abbrev pub invariant-loop-z : goal.invariant-loop-z
invariant-loop-z l = record {
  found : (p : Program) → IsFilled p l.table → Adds (FromOne (SpreadEnters p (scope_in l.pool l.scope)) (take l.z-index l.z-items)) [] l.all.items;
  older : All (IsOlder (scope_in l.pool l.scope) l.x) l.all.items;
}
