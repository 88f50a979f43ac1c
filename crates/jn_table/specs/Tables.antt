-- Of which program a table is, and what its calls say.
use Rattle.std.specs.Prelude.{◌≡◌, ◌<◌, ◌↔◌, ◌⊎◌, List, [], map, length, slice_get, Some, Bool, IsTrue}
use Rattle.jn_base.specs.declared.tree.Program.{Program}
use Rattle.jn_base.specs.declared.path.Path.{Path as ShownPath}
use Rattle.jn_base.specs.Paths.{Path}
use Rattle.jn_base.specs.Supers.{Sup}
use Rattle.jn_base.specs.ClassOrder.{Before}
use Rattle.jn_table.specs.Flat.{IsFlattened}
use Rattle.jn_table.specs.Order.{IsOrderOf, entry_name}
use Rattle.jn_base.specs.ProgramNames.{IsNamed}
use Rattle.jn_table.specs.Rows.{IsNumber, IsRow}
use Rattle.jn_table.specs.Answers.{AreRows, HasUniverse, UniversePasses, UniverseRefused}
use Rattle.jn_table.specs.declared.class.ClassId.{ClassId}
use Rattle.jn_table.specs.declared.class.Row.{Row}
use Rattle.jn_table.specs.declared.fault.TableFault.{TableFault}
use Rattle.jn_table.specs.declared.table.Table.{Table}

-- the table is one of the program p: it holds p's declarations, and each row that is filled is right
pub record IsTableOf (p : Program) (t : Table) : Type 0 where
  pub named : IsNamed p
  pub texts : t.texts ≡ p.names
  pub entries : IsFlattened p t.entries.items
  pub order : IsOrderOf p.names (map entry_name t.entries.items) t.order.items
  pub rows : AreRows p t.known.items t.rows.items
  -- it knows no path, or all of the universe, of which nothing is refused
  pub asked : (t.known.items ≡ []) ⊎ (HasUniverse p t.known.items × UniversePasses p)

-- the paths that have numbers, in the order of their numbers
abbrev pub numbered : Table → List ShownPath
numbered t = t.known.items

-- the paths whose rows are filled
abbrev pub filled_paths : Table → List ShownPath
filled_paths t = t.known.items

-- the number stands for the path R
abbrev pub StandsFor : Table → ClassId → Path → Type 0
StandsFor t id R = IsNumber (numbered t) id R

-- the row of that number is filled
abbrev pub IsFilledAt : Table → ClassId → Type 0
IsFilledAt t id = id.0 < length t.rows.items

-- a table of p in which the whole universe is filled
pub record IsFilled (p : Program) (t : Table) : Type 0 where
  pub table : IsTableOf p t
  pub whole : HasUniverse p (numbered t)

-- the number stands for the path, which is given with the outermost name first
abbrev pub IsPathOf : Table → ClassId → ShownPath → Type 0
IsPathOf t id q = slice_get (numbered t) id.0 ≡ Some q

abbrev pub HasNoNumber : Table → ShownPath → Type 0
HasNoNumber t q = (id : ClassId) → IsPathOf t id q → ⊥

-- of whatever program the table is, the row is that of the path of the number
abbrev pub SaysRow : Table → ClassId → Row → Type 0
SaysRow t id row = (p : Program) (R : Path) → IsTableOf p t → StandsFor t id R → IsRow p (numbered t) R row

-- whether B is in Sup(A), of the paths A and B of the numbers
abbrev pub SaysSup : Table → ClassId → ClassId → Bool → Type 0
SaysSup t a b told =
    (p : Program) (A B : Path) → IsTableOf p t → StandsFor t a A → StandsFor t b B → IsTrue told ↔ Sup p A B

-- whether A comes before B in the class order
abbrev pub SaysBefore : Table → ClassId → ClassId → Bool → Type 0
SaysBefore t a b told =
    (p : Program) (A B : Path) → IsTableOf p t → StandsFor t a A → StandsFor t b B → IsTrue told ↔ Before p A B

-- each number stands for the path for which it stood
abbrev pub KeepsNumbers : Table → Table → Type 0
KeepsNumbers t u = (id : ClassId) (q : ShownPath) → IsPathOf t id q → IsPathOf u id q

-- of whatever program it was, it still is
abbrev pub StaysTable : Table → Table → Type 0
StaysTable t u = (p : Program) → IsTableOf p t → IsTableOf p u

-- the whole universe is filled, and nothing of it is refused
pub record FillsUniverse (p : Program) (t : Table) : Type 0 where
  pub filled : IsFilled p t
  pub passes : UniversePasses p

abbrev pub SaysFilled : Table → Table → Type 0
SaysFilled t u = (p : Program) → IsTableOf p t → FillsUniverse p u

-- why it isn't
abbrev pub SaysRefused : Table → TableFault → Type 0
SaysRefused t f = (p : Program) → IsTableOf p t → UniverseRefused p f
