-- The paths near each path of a universe, by their numbers.
use Rattle.std.specs.Prelude.{◌≡◌, ℕ, List, Some, length, map, slice_get}
use Rattle.jn_reach.specs.Each.{Each}
use Rattle.jn_reach.specs.Graph.{Graph, InRange, Lists}
use Rattle.jn_base.specs.Paths.{Path}
use Rattle.jn_table.specs.Ups.{up_path}
use Rattle.jn_table.specs.declared.near.Near.{Near}

-- the path of that number is P
abbrev pub IsPathAt : List Path → Path → ℕ → Type 0
IsPathAt paths P k = slice_get paths k ≡ Some P

-- for each of the paths its numbers among the others
abbrev pub ArePathsAt : List Path → List Path → Graph → Type 0
ArePathsAt others paths rows = Each (λ P row. Lists (IsPathAt others P) row.items) paths rows

-- of each path the numbers of the path without its last name, and of those whose path without the last name it is
pub record IsNear (paths : List Path) (near : Near) : Type 0 where
  pub ups : ArePathsAt paths (map up_path paths) near.ups.items
  pub ups_long : length near.ups.items ≡ length paths
  pub ups_in : InRange near.ups.items (length paths)
  pub members : ArePathsAt (map up_path paths) paths near.members.items
  pub members_long : length near.members.items ≡ length paths
  pub members_in : InRange near.members.items (length paths)
