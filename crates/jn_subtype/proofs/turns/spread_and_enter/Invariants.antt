use Rattle.std.proofs.Common.{[], All, take}
use Rattle.jn_base.specs.declared.tree.Program.{Program}
use Rattle.jn_table.specs.Tables.{IsFilled}
use Rattle.jn_intern.specs.Pools.{scope_in}
use Rattle.jn_sem.specs.Search.{Enters}
use Rattle.jn_subtype.specs.Older.{IsOlder}
use Rattle.jn_subtype.specs.Turns.{Adds}
use Rattle.jn_subtype.proofs.Addings.{FromOne}
use Rattle.jn_subtype.proofs.turns.spread_and_enter.Given as goal

abbrev pub invariant-loop-w : goal.invariant-loop-w
invariant-loop-w l = record {
  found : (p : Program) → IsFilled p l.table → Adds (FromOne (Enters p (scope_in l.pool l.scope)) (take l.w-index l.w-items)) [] l.all.items;
  older : All (IsOlder (scope_in l.pool l.scope) l.z) l.all.items;
}
