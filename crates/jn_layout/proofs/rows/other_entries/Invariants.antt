use Rattle.std.proofs.Common.{take}
use Rattle.jn_reach.specs.Each.{Each}
use Rattle.jn_code.specs.declared.image.OtherEntry.{OtherEntry}
use Rattle.jn_layout.specs.RowLists.{FitIn, IsEntryOf}
use Rattle.jn_layout.proofs.rows.other_entries.Given as goal

abbrev pub invariant-loop-x : goal.invariant-loop-x
invariant-loop-x l = FitIn 65536 65536 l.pairs → Each (IsEntryOf (λ (e : OtherEntry). e.family) (λ (e : OtherEntry). e.class)) (take l.x-index l.pairs) l.all
