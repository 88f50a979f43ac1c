use Rattle.jn_big.proofs.Steps.{counted_at_feed, counted_at_other}
use Rattle.jn_big.proofs.report.count_lines.Goals as goal
use Rattle.jn_big.proofs.report.count_lines.Goals.{then-b-eq10, else-b-eq10}

pub loop-i-preserved : goal.loop-i-preserved
loop-i-preserved c = elim c.if-b-eq10.branch [
  | then-b-eq10 w ↦ rw (w.lines-is, w.start-is) (counted_at_feed _ _ _ _ _ c.loop-i-test.true w.if-b-eq10.true c.loop-i.invariant)
  | else-b-eq10 w ↦ rw (w.lines-is, w.start-is) (counted_at_other _ _ _ _ _ c.loop-i-test.true w.if-b-eq10.false c.loop-i.invariant)
]
