use Rattle.jn_big.proofs.Steps.{Counted}
use Rattle.jn_big.proofs.report.count_lines.Given as goal

abbrev pub invariant-loop-i : goal.invariant-loop-i
invariant-loop-i l = Counted l.output l.lines.last.now l.lines.count l.start l.i
