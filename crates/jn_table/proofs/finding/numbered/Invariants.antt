use Rattle.jn_table.specs.Places.{AreLocated}
use Rattle.jn_table.proofs.finding.numbered.Given as goal

abbrev pub invariant-loop-place : goal.invariant-loop-place
invariant-loop-place l = AreLocated l.known l.place l.all.items
