use Rattle.jn_table.specs.Universes.{RowsOf}
use Rattle.jn_table.proofs.row.rows_of.Given as goal

abbrev pub invariant-loop-number : goal.invariant-loop-number
invariant-loop-number l = RowsOf l.texts l.universe l.number l.rows.items
