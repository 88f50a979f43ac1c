-- The places of keys, key by key.
use Rattle.std.specs.Prelude.{◌≡◌, ℕ, List, [], Option, Some, None, slice_get}
use Rattle.std.specs.declared.vec.Vec.{Vec}
use Rattle.std.specs.declared.alloc.Global.{Global}
use Rattle.jn_reach.specs.Graph.{Graph, Lists}
use Rattle.jn_index.specs.Index.{IsIndex, IsFirst}
use Rattle.jn_base.specs.Paths.{Path}
use Rattle.jn_table.specs.Places.{path_key}
use Rattle.jn_table.specs.declared.entry.Entry.{Entry}
use Rattle.jn_table.specs.declared.groups.Groups.{Groups}

-- of the path of an entry, of the namespace that it stands in
abbrev pub entry_key : Entry → List ℕ
entry_key e = path_key e.path

abbrev pub namespace_key : Entry → List ℕ
namespace_key e = path_key e.namespace

abbrev pub StandsAt : List (List ℕ) → List ℕ → ℕ → Type 0
StandsAt keys key k = slice_get keys k ≡ Some key

-- the first place of the key
abbrev pub IsFirstOf : List (List ℕ) → Vec ℕ Global → ℕ → Type 0
IsFirstOf keys key first = IsFirst keys key.items first

-- the first place of each key is found, and its row has all places of the key
pub record IsGroups (keys : List (List ℕ)) (groups : Groups) : Type 0 where
  pub index : IsIndex keys groups.index.items
  pub rows : (a : ℕ) (key : List ℕ) → IsFirst keys key a
      → (row : Vec ℕ Global) × (slice_get groups.rows.items a ≡ Some row) × Lists (StandsAt keys key) row.items

-- the row of that number, nothing where there is no number
abbrev pub RowAt : Graph → Option ℕ → List ℕ → Type 0
RowAt rows None xs = xs ≡ []
RowAt rows (Some k) xs = (row : Vec ℕ Global) → slice_get rows k ≡ Some row → xs ≡ row.items

-- the row has the places of the path's key
abbrev pub PlacesOf : List (List ℕ) → Path → Vec ℕ Global → Type 0
PlacesOf keys P row = Lists (StandsAt keys (path_key P)) row.items
