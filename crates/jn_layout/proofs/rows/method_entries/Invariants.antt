use Rattle.std.proofs.Common.{take}
use Rattle.jn_reach.specs.Each.{Each}
use Rattle.jn_code.specs.declared.image.MethodEntry.{MethodEntry}
use Rattle.jn_layout.specs.RowLists.{IsEntryOf}
use Rattle.jn_layout.proofs.rows.method_entries.Given as goal

abbrev pub invariant-loop-x : goal.invariant-loop-x
invariant-loop-x l = Each (IsEntryOf (λ (e : MethodEntry). e.selector) (λ (e : MethodEntry). e.code)) (take l.x-index l.pairs) l.all
