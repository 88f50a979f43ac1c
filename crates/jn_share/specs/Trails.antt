-- Paths that a table doesn't number.
use Rattle.jn_base.specs.Paths.{Path}
use Rattle.jn_table.specs.declared.class.ClassId.{ClassId}
use Rattle.jn_table.specs.declared.table.Table.{Table}
use Rattle.jn_table.specs.Rows.{IsNumber}

-- no number stands for the path
abbrev pub HasNone : Table → Path → Type 0
HasNone t R = (id : ClassId) → IsNumber t.known.items id R → ⊥
