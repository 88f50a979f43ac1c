use Rattle.jn_share.proofs.FieldEntries.{PairsTo}
use Rattle.jn_share.proofs.declaring.class_pairs.Given as goal

abbrev pub invariant-loop-i : goal.invariant-loop-i
invariant-loop-i l = PairsTo l.types l.count l.i l.pairs.items
