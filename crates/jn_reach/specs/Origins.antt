-- From which of several starts each node is reached.
use Rattle.std.specs.Prelude.{◌≡◌, ◌<◌, ℕ, List, Option, Some, None, slice_get, slice_index_or, length}
use Rattle.jn_reach.specs.Chain.{Chain}
use Rattle.jn_reach.specs.Graph.{Graph, HasEdge, Reached}

-- s is the first of the starts from which a chain of edges leads to b
pub record IsOrigin (g : Graph) (starts : List ℕ) (b s : ℕ) : Type 0 where
  pub place : ℕ
  pub at : slice_get starts place ≡ Some s
  pub chain : Chain (HasEdge g) s b
  pub first : (k t : ℕ) → k < place → slice_get starts k ≡ Some t → Chain (HasEdge g) t b → ⊥

-- the list gives b the origin s
abbrev pub HasOrigin : List (Option ℕ) → ℕ → ℕ → Type 0
HasOrigin origins b s = slice_index_or origins b None ≡ Some s

-- the list gives b an origin
abbrev pub IsFound : List (Option ℕ) → ℕ → Type 0
IsFound origins b = (s : ℕ) × HasOrigin origins b s

-- the list gives each node its origin, and one to each node that is reached
pub record AreOrigins (g : Graph) (starts : List ℕ) (origins : List (Option ℕ)) : Type 0 where
  pub long : length origins ≡ length g
  pub sound : (b s : ℕ) → HasOrigin origins b s → IsOrigin g starts b s
  pub complete : (b : ℕ) → Reached g starts b → IsFound origins b
