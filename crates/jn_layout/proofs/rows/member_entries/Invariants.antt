use Rattle.std.proofs.Common.{take}
use Rattle.jn_reach.specs.Each.{Each}
use Rattle.jn_code.specs.declared.image.MemberEntry.{MemberEntry}
use Rattle.jn_layout.specs.RowLists.{FitIn, IsEntryOf}
use Rattle.jn_layout.proofs.rows.member_entries.Given as goal

abbrev pub invariant-loop-x : goal.invariant-loop-x
invariant-loop-x l = FitIn 65536 65536 l.pairs → Each (IsEntryOf (λ (e : MemberEntry). e.name) (λ (e : MemberEntry). e.class)) (take l.x-index l.pairs) l.all
