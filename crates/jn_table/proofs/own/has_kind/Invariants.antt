use Rattle.jn_reach.proofs.Searches.{NoneBefore}
use Rattle.jn_table.specs.Gather.{IsKindAt}
use Rattle.jn_table.proofs.own.has_kind.Given as goal

abbrev pub invariant-loop-number : goal.invariant-loop-number
invariant-loop-number l = NoneBefore (IsKindAt l.entries l.kind) l.row l.number-index
