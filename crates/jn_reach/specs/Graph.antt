-- Graphs: their nodes are the numbers below the length, and row a lists the nodes that an edge from a leads to.
use Rattle.std.specs.Prelude.{◌≡◌, ◌<◌, ◌↔◌, ℕ, List, All, Contains, slice_get, Some, length}
use Rattle.std.specs.List.Sorted.{IsStrictlyIncreasing}
use Rattle.std.specs.declared.vec.Vec.{Vec}
use Rattle.std.specs.declared.alloc.Global.{Global}
use Rattle.jn_reach.specs.Chain.{Chain}

abbrev pub Graph : Type 0
Graph = List (Vec ℕ Global)

-- each edge leads to a number below n
abbrev pub InRange : Graph → ℕ → Type 0
InRange g n = All (λ row. All (λ w. w < n) row.items) g

-- an edge leads from a to b
pub record HasEdge (g : Graph) (a b : ℕ) : Type 0 where
  pub row : Vec ℕ Global
  pub at : slice_get g a ≡ Some row
  pub in_row : Contains row.items b

-- b is the end of a chain of edges from one of the starts
pub record Reached (g : Graph) (starts : List ℕ) (b : ℕ) : Type 0 where
  pub start : ℕ
  pub among : Contains starts start
  pub chain : Chain (HasEdge g) start b

-- the nodes are exactly those of which P holds, each once, in ascending order
pub record Lists (P : ℕ → Type 0) (nodes : List ℕ) : Type 0 where
  pub exact : (b : ℕ) → Contains nodes b ↔ P b
  pub ascending : IsStrictlyIncreasing nodes

-- row a lists the ends of the chains of edges from a
pub record IsClosure (g : Graph) (rows : Graph) : Type 0 where
  pub long : length rows ≡ length g
  pub each : (a : ℕ) (row : Vec ℕ Global) → slice_get rows a ≡ Some row → Lists (Chain (HasEdge g) a) row.items
