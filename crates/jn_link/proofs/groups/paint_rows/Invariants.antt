use Rattle.std.proofs.Common.{◌≡◌, drop}
use Rattle.jn_link.specs.Groups.{painted_rows}
use Rattle.jn_link.proofs.groups.paint_rows.Given as goal

abbrev pub invariant-loop-row : goal.invariant-loop-row
invariant-loop-row l = painted_rows l.kinds (drop l.row-index l.rows) l.groups.items
    ≡ painted_rows l.kinds l.rows l.initial.groups.items
