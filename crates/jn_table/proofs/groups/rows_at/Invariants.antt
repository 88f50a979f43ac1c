use Rattle.std.proofs.Common.{ℕ, List, take}
use Rattle.jn_reach.specs.Each.{Each}
use Rattle.jn_table.specs.Groups.{IsGroups, PlacesOf}
use Rattle.jn_table.proofs.groups.rows_at.Given as goal

abbrev pub invariant-loop-path : goal.invariant-loop-path
invariant-loop-path l =
    (keys : List (List ℕ)) → IsGroups keys l.groups → Each (PlacesOf keys) (take l.path-index l.paths) l.rows.items
