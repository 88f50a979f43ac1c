use Rattle.std.proofs.Common.{take}
use Rattle.jn_table.specs.Level.{DirectRows}
use Rattle.jn_table.proofs.level.direct_rows.Given as goal

abbrev pub invariant-loop-heir : goal.invariant-loop-heir
invariant-loop-heir l = DirectRows l.entries l.level l.children (take l.heir-index l.children) l.rows.items
