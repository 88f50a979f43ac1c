use Rattle.jn_reach.proofs.Searches.{NoneBefore}
use Rattle.jn_table.proofs.Nears.{IsUpAt}
use Rattle.jn_table.proofs.row.up_of.Given as goal

abbrev pub invariant-loop-number : goal.invariant-loop-number
invariant-loop-number l = NoneBefore (IsUpAt l.paths l.path) l.row l.number-index
