-- What is said of the rows of a universe, and what is refused of it.
use Rattle.std.specs.Prelude.{◌≡◌, List, Contains, map}
use Rattle.std.specs.List.Sorted.{IsStrictlySortedBy}
use Rattle.jn_reach.specs.Each.{Each}
use Rattle.jn_base.specs.declared.tree.Program.{Program}
use Rattle.jn_base.specs.declared.path.Path.{Path as ShownPath}
use Rattle.jn_base.specs.Paths.{Path, shown}
use Rattle.jn_base.specs.Universe.{InUniverse}
use Rattle.jn_base.specs.ClassOrder.{class_cmp, IsFirst}
use Rattle.jn_base.specs.TableRules.{IsOver, IsCycle, IsMixed, NoneIs}
use Rattle.jn_table.specs.Rows.{IsNumber, IsRow}
use Rattle.jn_table.specs.declared.class.ClassId.{ClassId}
use Rattle.jn_table.specs.declared.class.Row.{Row}
use Rattle.jn_table.specs.declared.fault.TableFault.{TableFault}
use Rattle.jn_table.specs.declared.fault.TableFault.TheVariants as fault

-- paths of the universe with the row of each, each once, in class order
pub record AreRows (p : Program) (known : List ShownPath) (rows : List Row) : Type 0 where
  pub paths : List Path
  pub shown_are : known ≡ map shown paths
  pub universe : (R : Path) → Contains paths R → InUniverse p R
  pub in_order : IsStrictlySortedBy (class_cmp p) paths
  pub each : Each (IsRow p known) paths rows

-- each path of the universe has its number and its row
pub record HasUniverse (p : Program) (known : List ShownPath) : Type 0 where
  pub whole : (R : Path) → InUniverse p R → (id : ClassId) × IsNumber known id R

-- nothing of the universe is refused
pub record UniversePasses (p : Program) : Type 0 where
  pub within : NoneIs (IsOver p)
  pub no_cycle : NoneIs (IsCycle p)
  pub one_kind : NoneIs (IsMixed p)

-- why a universe is refused, in the order of the rules; want of memory is no refusal
pub data UniverseRefused (p : Program) : TableFault → Type 0 where
  too_many : {R : Path} → IsOver p R → UniverseRefused p (fault.TooMany (shown R))
  cycle : {R : Path} → NoneIs (IsOver p) → IsFirst p (IsCycle p) R → UniverseRefused p (fault.Cycle (shown R))
  two_kinds : {R : Path} → NoneIs (IsOver p) → NoneIs (IsCycle p) → IsFirst p (IsMixed p) R
      → UniverseRefused p (fault.Kind (shown R))
  memory : UniverseRefused p fault.Memory
