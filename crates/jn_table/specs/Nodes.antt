-- The paths of a universe as the nodes of a graph, whose edges lead to direct supers.
use Rattle.std.specs.Prelude.{◌≡◌, ◌≤◌, ◌+◌, ℕ, ◌++◌, All, length, map}
use Rattle.std.specs.declared.vec.Vec.{Vec}
use Rattle.std.specs.declared.alloc.Global.{Global}
use Rattle.std.specs.List.Sorted.{IsStrictlyIncreasing}
use Rattle.jn_reach.specs.Each.{Each}
use Rattle.jn_reach.specs.Graph.{Graph, HasEdge, InRange}
use Rattle.jn_reach.specs.Numbers.{Numbers}
use Rattle.jn_base.specs.declared.tree.Program.{Program}
use Rattle.jn_base.specs.Supers.{Direct}
use Rattle.jn_base.specs.Universe.{InUniverse}
use Rattle.jn_table.specs.Rows.{ArePaths}
use Rattle.jn_table.specs.declared.level.Level.{Level}
use Rattle.jn_table.specs.declared.nodes.Nodes.{Nodes}

-- all paths of the universe, in class order, and their direct supers
pub record AreNodes (p : Program) (nodes : Nodes) : Type 0 where
  pub universe : ArePaths p (InUniverse p) nodes.paths.items
  pub direct : Numbers (Direct p) nodes.paths.items (HasEdge nodes.direct.items)

-- the rows fit the paths, and there are no more than a universe may have
pub record FitNodes (nodes : Nodes) : Type 0 where
  pub few : length nodes.paths.items ≤ 4096
  pub long : length nodes.direct.items ≡ length nodes.paths.items
  pub within : InRange nodes.direct.items (length nodes.paths.items)
  pub ascending : All (λ row. IsStrictlyIncreasing row.items) nodes.direct.items

-- the numbers of a row, each greater by so much
abbrev pub IsShifted : ℕ → Vec ℕ Global → Vec ℕ Global → Type 0
IsShifted off row moved = moved.items ≡ map (λ j. j + off) row.items

-- behind what was there stand these rows, each of their numbers greater by so much
pub record AddsShifted (off : ℕ) (rows before after : Graph) : Type 0 where
  pub added : Graph
  pub is : after ≡ before ++ added
  pub each : Each (IsShifted off) rows added

-- behind the nodes that were there stand those of the level
pub record AddsLevel (level : Level) (before after : Nodes) : Type 0 where
  pub paths : after.paths.items ≡ before.paths.items ++ level.paths.items
  pub direct : AddsShifted (length before.paths.items) level.direct.items before.direct.items after.direct.items
