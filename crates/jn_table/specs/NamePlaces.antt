-- The places of declared names in the order of the names.
use Rattle.std.specs.Prelude.{◌≡◌, ℕ, List, [], ◌∷◌, Some, Any, slice_get}
use Rattle.std.specs.declared.vec.Vec.{Vec}
use Rattle.std.specs.declared.alloc.Global.{Global}
use Rattle.jn_reach.specs.Each.{Each}
use Rattle.jn_reach.specs.Graph.{Graph}
use Rattle.jn_base.specs.declared.tree.Name.{Name}
use Rattle.jn_table.specs.declared.entry.Entry.{Entry}

abbrev pub name_key : Name → List ℕ
name_key n = n.0 ∷ []

-- for each entry the place of its name
abbrev pub AreNamePlaces : List Entry → List Name → List ℕ → Type 0
AreNamePlaces es order places = Each (λ e k. slice_get order k ≡ Some e.name) es places

-- k is the place for the entry of one of those numbers
abbrev pub PlacedAmong : List ℕ → List ℕ → ℕ → Type 0
PlacedAmong places row k = Any (λ i. slice_get places i ≡ Some k) row

-- of one of the numbers of the n-th row
pub record PlacedIn (places : List ℕ) (inside : Graph) (k n : ℕ) : Type 0 where
  pub row : Vec ℕ Global
  pub at : slice_get inside n ≡ Some row
  pub has : PlacedAmong places row.items k
