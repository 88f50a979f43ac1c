use Rattle.jn_table.proofs.DepthSteps.{Stage}
use Rattle.jn_table.proofs.depths.depths.Given as goal

abbrev pub invariant-loop-level : goal.invariant-loop-level
invariant-loop-level l = Stage l.entries l.order l.nodes l.level l.room

abbrev pub decreases-loop-level : goal.decreases-loop-level
decreases-loop-level l = l.room
