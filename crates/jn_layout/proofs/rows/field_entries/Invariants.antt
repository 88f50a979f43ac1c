use Rattle.std.proofs.Common.{take}
use Rattle.jn_reach.specs.Each.{Each}
use Rattle.jn_code.specs.declared.image.FieldEntry.{FieldEntry}
use Rattle.jn_layout.specs.RowLists.{FitIn, IsEntryOf}
use Rattle.jn_layout.proofs.rows.field_entries.Given as goal

abbrev pub invariant-loop-x : goal.invariant-loop-x
invariant-loop-x l = FitIn 4294967296 256 l.pairs → Each (IsEntryOf (λ (e : FieldEntry). e.selector) (λ (e : FieldEntry). e.slot)) (take l.x-index l.pairs) l.all
