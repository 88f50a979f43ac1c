use Rattle.jn_base.specs.declared.tree.Program.{Program}
use Rattle.jn_table.specs.Tables.{IsFilled}
use Rattle.jn_share.specs.Counting.{Counts, AmongOthers}
use Rattle.jn_share.proofs.EntryLists.{FirstOf}
use Rattle.jn_share.proofs.entries.others.Given as goal

abbrev pub invariant-loop-r : goal.invariant-loop-r
invariant-loop-r l = (p : Program) → IsFilled p l.t → Counts (AmongOthers p l.t.known.items (FirstOf l.among l.r-index) l.k) l.count
