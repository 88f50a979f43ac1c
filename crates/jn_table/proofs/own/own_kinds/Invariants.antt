use Rattle.std.proofs.Common.{take}
use Rattle.jn_reach.specs.Each.{Each}
use Rattle.jn_table.specs.Own.{KindsAt}
use Rattle.jn_table.proofs.own.own_kinds.Given as goal

abbrev pub invariant-loop-row : goal.invariant-loop-row
invariant-loop-row l = Each (KindsAt l.entries l.kind) (take l.row-index l.rows) l.all.items
