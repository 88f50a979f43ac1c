-- The universe of a program, or what is too much of it.
use Rattle.std.specs.Prelude.{◌≡◌, ◌<◌, ◌-◌, ℕ, List, [], ◌∷◌, length, map, slice_get, Some}
use Rattle.jn_reach.specs.Numbers.{AreDistinct}
use Rattle.jn_base.specs.declared.tree.Name.{Name}
use Rattle.jn_base.specs.declared.tree.Program.{Program}
use Rattle.jn_base.specs.Paths.{Path}
use Rattle.jn_base.specs.TableRules.{IsOver}
use Rattle.jn_table.specs.Gather.{DeclaresIn}
use Rattle.jn_table.specs.Children.{ChildrenFront}
use Rattle.jn_table.specs.Exact.{IsFlat, IsNextOf}
use Rattle.jn_table.specs.Level.{IsShaped, ChildPaths}
use Rattle.jn_table.specs.Order.{IsOrderOf, entry_name}
use Rattle.jn_base.specs.ProgramNames.{IsNamed}
use Rattle.jn_table.specs.Nodes.{AreNodes, FitNodes}
use Rattle.jn_table.specs.declared.entry.Entry.{Entry}
use Rattle.jn_table.specs.declared.level.Child.{Child}
use Rattle.jn_table.specs.declared.level.Level.{Level}
use Rattle.jn_table.specs.declared.depths.Below.{Below}
use Rattle.jn_table.specs.declared.depths.Below.TheVariants as below
use Rattle.jn_table.specs.declared.depths.Found.{Found}
use Rattle.jn_table.specs.declared.depths.Found.TheVariants as found

-- the list has each declared name, each once
pub record IsOrdered (es : List Entry) (order : List Name) : Type 0 where
  pub distinct : AreDistinct order
  pub declared : (P : Path) (C : Name) → DeclaresIn es P C → ((j : ℕ) → slice_get order j ≡ Some C → ⊥) → ⊥

-- the entries are the declarations of p, and the list has their names in order
pub record AreOf (p : Program) (es : List Entry) (order : List Name) : Type 0 where
  pub flat : IsFlat p es
  pub named : IsNamed p
  pub order_is : IsOrderOf p.names (map entry_name es) order

-- R is the last child for which there is room
pub record OverAt (es : List Entry) (order : List Name) (level : Level) (room : ℕ) (R : Path) : Type 0 where
  pub children : List Child
  pub front : ChildrenFront es order level (length level.paths.items) room children
  pub last : Child
  pub last_at : slice_get children (room - 1) ≡ Some last
  pub up : Path
  pub up_at : slice_get level.paths.items last.up ≡ Some up
  pub is : R ≡ last.name ∷ up

-- the depth has all children: there are some, and there is room for all
pub record NextAt (es : List Entry) (order : List Name) (level : Level) (room : ℕ) (below : Level) : Type 0 where
  pub children : List Child
  pub front : ChildrenFront es order level (length level.paths.items) room children
  pub some : 0 < length children
  pub few : length children < room
  pub shaped : IsShaped below
  pub paths : ChildPaths level.paths.items children below.paths.items
  pub exact : IsNextOf es level children below

abbrev pub IsBelow : List Entry → List Name → Level → ℕ → Below → Type 0
IsBelow es order level room below.Nothing = ChildrenFront es order level (length level.paths.items) room []
IsBelow es order level room (below.Over R) = OverAt es order level room R
IsBelow es order level room (below.Next next) = NextAt es order level room next

-- all paths of the universe, or the 4,097th
abbrev pub IsUniverse : Program → Found → Type 0
IsUniverse p (found.Whole nodes) = AreNodes p nodes
IsUniverse p (found.Over R) = IsOver p R

-- of whatever program the entries are
abbrev pub Answers : List Entry → List Name → Found → Type 0
Answers es order f = (p : Program) → AreOf p es order → IsUniverse p f

abbrev pub Fits : Found → Type 0
Fits (found.Whole nodes) = FitNodes nodes
Fits (found.Over R) = Unit {0}
