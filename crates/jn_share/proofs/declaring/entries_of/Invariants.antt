use Rattle.jn_share.proofs.FieldEntries.{EntriesTo}
use Rattle.jn_share.proofs.declaring.entries_of.Given as goal

abbrev pub invariant-loop-s : goal.invariant-loop-s
invariant-loop-s l = EntriesTo l.own l.sups l.s-index l.all.items
