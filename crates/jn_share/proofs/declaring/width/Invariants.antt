use Rattle.jn_share.proofs.FieldEntries.{WideTo}
use Rattle.jn_share.proofs.declaring.width.Given as goal

abbrev pub invariant-loop-x : goal.invariant-loop-x
invariant-loop-x l = WideTo l.types l.most l.x-index
