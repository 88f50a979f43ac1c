use Rattle.jn_reach.proofs.Rows.{Rows}
use Rattle.jn_reach.proofs.lists.closure.Given as goal

abbrev pub invariant-loop-start : goal.invariant-loop-start
invariant-loop-start l = Rows l.edges l.start l.rows.items
