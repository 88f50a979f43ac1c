-- What is filled of a universe, and what is refused of it, of whatever program the entries are.
use Rattle.std.specs.Prelude.{◌≡◌, List}
use Rattle.jn_base.specs.declared.tree.Name.{Name}
use Rattle.jn_base.specs.declared.tree.Text.{Text}
use Rattle.jn_base.specs.declared.tree.Program.{Program}
use Rattle.jn_base.specs.declared.path.Path.{Path as ShownPath}
use Rattle.jn_table.specs.Depths.{AreOf}
use Rattle.jn_table.specs.Nodes.{AreNodes}
use Rattle.jn_table.specs.Universes.{IsUniverseOf}
use Rattle.jn_table.specs.Answers.{AreRows, HasUniverse, UniversePasses, UniverseRefused}
use Rattle.jn_table.specs.declared.class.Row.{Row}
use Rattle.jn_table.specs.declared.entry.Entry.{Entry}
use Rattle.jn_table.specs.declared.fault.TableFault.{TableFault}
use Rattle.jn_table.specs.declared.nodes.Nodes.{Nodes}
use Rattle.jn_table.specs.declared.universe.Universe.{Universe}

-- all paths of the universe have their rows, and nothing is refused
pub record Fills (p : Program) (known : List ShownPath) (rows : List Row) : Type 0 where
  pub rows_are : AreRows p known rows
  pub whole : HasUniverse p known
  pub passes : UniversePasses p

abbrev pub FillsAll : List Text → List Entry → List Name → List ShownPath → List Row → Type 0
FillsAll texts es order known rows = (p : Program) → AreOf p es order → texts ≡ p.names → Fills p known rows

abbrev pub RefusesAll : List Entry → List Name → TableFault → Type 0
RefusesAll es order f = (p : Program) → AreOf p es order → UniverseRefused p f

abbrev pub UniverseAll : List Entry → List Name → Universe → Type 0
UniverseAll es order u = (p : Program) → AreOf p es order → IsUniverseOf p es u

abbrev pub NodesAll : List Entry → List Name → Nodes → Type 0
NodesAll es order nodes = (p : Program) → AreOf p es order → AreNodes p nodes
