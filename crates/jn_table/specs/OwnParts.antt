-- What a table says of the declarations at a path themselves.
use Rattle.std.specs.Prelude.{List, Contains, ◌↔◌}
use Rattle.jn_base.specs.declared.tree.Name.{Name}
use Rattle.jn_base.specs.declared.tree.Program.{Program}
use Rattle.jn_base.specs.Paths.{Path}
use Rattle.jn_table.specs.declared.class.ClassId.{ClassId}
use Rattle.jn_table.specs.declared.table.Table.{Table}
use Rattle.jn_table.specs.Exact.{MethodNamed, FieldNamed}
use Rattle.jn_table.specs.Tables.{IsTableOf, StandsFor}

-- the names are those of the methods that a declaration at the path of the number has
abbrev pub SaysMethods : Table → ClassId → List Name → Type 0
SaysMethods t id names =
    (p : Program) (R : Path) → IsTableOf p t → StandsFor t id R → (m : Name) → Contains names m ↔ MethodNamed p R m

abbrev pub SaysFields : Table → ClassId → List Name → Type 0
SaysFields t id names =
    (p : Program) (R : Path) → IsTableOf p t → StandsFor t id R → (f : Name) → Contains names f ↔ FieldNamed p R f
