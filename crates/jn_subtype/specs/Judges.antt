-- What a judge keeps.
use Rattle.std.specs.Prelude.{List}
use Rattle.jn_base.specs.declared.types.Ty.{Ty}
use Rattle.jn_table.specs.declared.table.Table.{Table}
use Rattle.jn_table.specs.Tables.{StaysTable}
use Rattle.jn_intern.specs.Pools.{Keeps}
use Rattle.jn_subtype.specs.declared.judge.Judge.{Judge}

-- Each answer that the judge keeps is right for the pool and the table. It keeps none, so it fits all.
abbrev pub JudgeFits : Judge → List Ty → Table → Type 0
JudgeFits judge pool table = Unit {0}

-- A judge still fits after the pool and the table have grown.
abbrev pub JudgesStay : Type 0
JudgesStay = (judge : Judge) (old new : List Ty) (t u : Table) → Keeps old new → StaysTable t u → JudgeFits judge old t → JudgeFits judge new u
