-- One depth of the table, as lists.
use Rattle.std.specs.Prelude.{◌≡◌, ◌<◌, ℕ, List, [], ◌∷◌, Contains, length, map, slice_get, Some, All, Any}
use Rattle.std.specs.List.Sorted.{IsStrictlyIncreasing}
use Rattle.std.specs.declared.vec.Vec.{Vec}
use Rattle.std.specs.declared.alloc.Global.{Global}
use Rattle.jn_reach.specs.Each.{Each}
use Rattle.jn_reach.specs.Graph.{Lists}
use Rattle.jn_base.specs.declared.tree.Name.{Name}
use Rattle.jn_base.specs.Paths.{Path}
use Rattle.jn_table.specs.Gather.{PartAt}
use Rattle.jn_table.specs.Groups.{IsGroups, StandsAt}
use Rattle.jn_table.specs.declared.entry.Entry.{Entry}
use Rattle.jn_table.specs.declared.gather.Part.TheVariants as part
use Rattle.jn_table.specs.declared.groups.Groups.{Groups}
use Rattle.jn_table.specs.declared.level.Child.{Child}
use Rattle.jn_table.specs.declared.level.Level.{Level}

-- the key of the path of that name under the path of that number
abbrev pub key_under : ℕ → Name → List ℕ
key_under up name = up ∷ name.0 ∷ []

abbrev pub child_key : Child → List ℕ
child_key c = key_under c.up c.name

-- the children by their keys
abbrev pub AreGrouped : List Child → Groups → Type 0
AreGrouped children groups = IsGroups (map child_key children) groups

-- at k stands the key of one of the written names, of the name under one of those paths
abbrev pub IsWrittenAt : List (List ℕ) → ℕ → List Name → ℕ → Type 0
IsWrittenAt keys up written k = Any (λ D. StandsAt keys (key_under up D) k) written

abbrev pub IsInheritedAt : List (List ℕ) → List ℕ → Name → ℕ → Type 0
IsInheritedAt keys direct name k = Any (λ up. StandsAt keys (key_under up name) k) direct

-- by the names that the declarations of the heir extend, and the numbers of the direct supers of its namespace
pub data DirectBy (written : List Name) (direct : List ℕ) (heir super : Child) : Type 0 where
  writes_it : heir.up ≡ super.up → Contains written super.name → DirectBy written direct heir super
  inherits_it : heir.name ≡ super.name → Contains direct super.up → DirectBy written direct heir super

-- the path of that number is one
pub record DirectByAt (written : List Name) (direct : List ℕ) (children : List Child) (heir : Child)
    (k : ℕ) : Type 0 where
  pub super : Child
  pub at : slice_get children k ≡ Some super
  pub by : DirectBy written direct heir super

-- by the numbers of the direct supers and of the supers of the heir's namespace
pub data DirectChild (es : List Entry) (paths : List Path) (direct sups : List ℕ) (heir super : Child) : Type 0 where
  writes : heir.up ≡ super.up → Any (PartAt es paths heir.name part.Extends super.name) sups
      → DirectChild es paths direct sups heir super
  inherits : heir.name ≡ super.name → Contains direct super.up → DirectChild es paths direct sups heir super

-- the path of that number is one
pub record DirectChildAt (es : List Entry) (paths : List Path) (direct sups : List ℕ) (children : List Child)
    (heir : Child) (k : ℕ) : Type 0 where
  pub super : Child
  pub at : slice_get children k ≡ Some super
  pub by : DirectChild es paths direct sups heir super

-- the numbers of the direct supers of a path of the next depth, in order
pub record DirectRow (es : List Entry) (level : Level) (children : List Child) (heir : Child)
    (row : List ℕ) : Type 0 where
  pub direct : Vec ℕ Global
  pub direct_at : slice_get level.direct.items heir.up ≡ Some direct
  pub sups : Vec ℕ Global
  pub sups_at : slice_get level.sups.items heir.up ≡ Some sups
  pub lists : Lists (DirectChildAt es level.paths.items direct.items sups.items children heir) row

-- the rows of a level fit its paths
pub record IsShaped (level : Level) : Type 0 where
  pub direct : length level.direct.items ≡ length level.paths.items
  pub sups : length level.sups.items ≡ length level.paths.items
  pub direct_in : All (λ row. All (λ j. j < length level.paths.items) row.items) level.direct.items
  pub ascending : All (λ row. IsStrictlyIncreasing row.items) level.direct.items
  pub sups_in : All (λ row. All (λ j. j < length level.paths.items) row.items) level.sups.items

abbrev pub DirectRows : List Entry → Level → List Child → List Child → List (Vec ℕ Global) → Type 0
DirectRows es level children heirs rows = Each (λ heir row. DirectRow es level children heir row.items) heirs rows

-- the path of a child is its name under the path of that number
pub record ChildPath (paths : List Path) (child : Child) (path : Path) : Type 0 where
  pub up : Path
  pub up_at : slice_get paths child.up ≡ Some up
  pub is : path ≡ child.name ∷ up

abbrev pub ChildPaths : List Path → List Child → List Path → Type 0
ChildPaths paths children all = Each (ChildPath paths) children all
