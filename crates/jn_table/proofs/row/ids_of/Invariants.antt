use Rattle.std.proofs.Common.{◌≡◌, ◌++◌, drop, map}
use Rattle.jn_table.specs.Universes.{class_id}
use Rattle.jn_table.proofs.row.ids_of.Given as goal

abbrev pub invariant-loop-number : goal.invariant-loop-number
invariant-loop-number l = l.ids.items ++ map class_id (drop l.number-index l.row) ≡ map class_id l.row
