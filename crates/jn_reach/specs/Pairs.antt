-- Relations on numbers that are given by a list of pairs.
use Rattle.std.specs.Prelude.{◌≡◌, ◌<◌, ◌≤◌, ◌↔◌, ℕ, List, [], ◌∷◌, ◌++◌, All, Contains, Some, length, slice_get, slice_index, slice_set}
use Rattle.std.specs.declared.vec.Vec.{Vec}
use Rattle.std.specs.declared.alloc.Global.{Global}
use Rattle.jn_reach.specs.Equivalent.{Equivalent}
use Rattle.jn_reach.specs.Graph.{Graph, HasEdge, Lists}

-- a and b are one of the pairs
abbrev pub IsPair : List (ℕ × ℕ) → ℕ → ℕ → Type 0
IsPair pairs a b = Contains pairs (a, b)

-- both numbers of each pair are below n
abbrev pub AreBelow : ℕ → List (ℕ × ℕ) → Type 0
AreBelow n pairs = All (λ p. (p.0 < n) × (p.1 < n)) pairs

-- the graph has n nodes, and an edge from a to b exactly where R holds of them
pub record IsGraphOf (n : ℕ) (R : ℕ → ℕ → Type 0) (g : Graph) : Type 0 where
  pub long : length g ≡ n
  pub edges : (a b : ℕ) → HasEdge g a b ↔ R a b

-- row `from` has `to` as one more, at its end, and the other rows are as they were
pub record AddsEdge (old new : Graph) (from to : ℕ) : Type 0 where
  pub row : Vec ℕ Global
  pub at : slice_get old from ≡ Some row
  pub longer : Vec ℕ Global
  pub pushed : longer.items ≡ row.items ++ to ∷ []
  pub is : new ≡ slice_set old from longer

-- f is the least number of the class of a
pub record IsFirst (E : ℕ → ℕ → Type 0) (a f : ℕ) : Type 0 where
  pub related : Equivalent E a f
  pub least : (b : ℕ) → Equivalent E a b → f ≤ b

-- the list gives each number below n the least of its class
pub record AreFirsts (E : ℕ → ℕ → Type 0) (n : ℕ) (firsts : List ℕ) : Type 0 where
  pub long : length firsts ≡ n
  pub each : (a : ℕ) → a < n → IsFirst E a (slice_index firsts a)

-- row a lists the numbers that the list gives a
pub record AreMembers (firsts : List ℕ) (rows : Graph) : Type 0 where
  pub long : length rows ≡ length firsts
  pub each : (a : ℕ) (row : Vec ℕ Global) → slice_get rows a ≡ Some row → Lists (λ b. slice_get firsts b ≡ Some a) row.items
