use Rattle.std.proofs.Common.{take}
use Rattle.jn_table.specs.Nodes.{AddsShifted}
use Rattle.jn_table.proofs.nodes.add_rows.Given as goal

abbrev pub invariant-loop-row : goal.invariant-loop-row
invariant-loop-row l = AddsShifted l.off (take l.row-index l.rows) l.initial.all.items l.all.items
