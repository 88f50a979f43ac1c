-- What the search from one start does to the origins, and to the nodes that wait to be visited.
use Rattle.std.specs.Prelude.{◌≡◌, ◌+◌, ◌⊎◌, ℕ, List, Option, Some, slice_get, Contains, length, sum_by, cond, is_some}
use Rattle.std.specs.declared.vec.Vec.{Vec}
use Rattle.std.specs.declared.alloc.Global.{Global}
use Rattle.jn_reach.specs.Chain.{Chain}
use Rattle.jn_reach.specs.Graph.{Graph, HasEdge}
use Rattle.jn_reach.specs.Origins.{HasOrigin, IsFound}

-- how many nodes have no origin yet
abbrev pub unfound : List (Option ℕ) → ℕ
unfound m = sum_by (λ o. cond (is_some o) 0 1) m

-- b had no origin, and now has the start, which is s
pub record IsNew (start : ℕ) (m : List (Option ℕ)) (b s : ℕ) : Type 0 where
  pub is : s ≡ start
  pub unfound_before : IsFound m b → ⊥

-- the nodes of the row have origins, and those that had none have the start and wait
pub record Visited (start : ℕ) (row : List ℕ) (m : List (Option ℕ)) (q : List ℕ) (m' : List (Option ℕ)) (q' : List ℕ) : Type 0 where
  pub long : length m' ≡ length m
  pub kept : (b s : ℕ) → HasOrigin m b s → HasOrigin m' b s
  pub reaches : (b : ℕ) → Contains row b → IsFound m' b
  pub only : (b s : ℕ) → HasOrigin m' b s → HasOrigin m b s ⊎ (Contains row b × IsNew start m b s)
  pub waits : (b : ℕ) → Contains q b → Contains q' b
  pub fresh : (b : ℕ) → IsFound m' b → IsFound m b ⊎ Contains q' b
  pub waits_only : (b : ℕ) → Contains q' b → Contains q b ⊎ Contains row b
  pub work : length q' + unfound m' ≡ length q + unfound m

-- the nodes to which the edges from `node` lead are visited
pub record VisitedFrom (g : Graph) (start node : ℕ) (m : List (Option ℕ)) (q : List ℕ) (m' : List (Option ℕ)) (q' : List ℕ) : Type 0 where
  pub row : Vec ℕ Global
  pub at : slice_get g node ≡ Some row
  pub visited : Visited start row.items m q m' q'

-- with a node that has an origin each node that an edge from it leads to has one
abbrev pub IsClosedUnder : Graph → List (Option ℕ) → Type 0
IsClosedUnder g m = (a b : ℕ) → IsFound m a → HasEdge g a b → IsFound m b

-- the nodes that had no origin and are reached from the start have it now, and the others are as they were
pub record Spread (g : Graph) (start : ℕ) (m m' : List (Option ℕ)) : Type 0 where
  pub long : length m' ≡ length m
  pub kept : (b s : ℕ) → HasOrigin m b s → HasOrigin m' b s
  pub started : IsFound m' start
  pub only : (b s : ℕ) → HasOrigin m' b s → HasOrigin m b s ⊎ (Chain (HasEdge g) start b × IsNew start m b s)
  pub closed : IsClosedUnder g m'
