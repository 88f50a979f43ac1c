-- Marks of nodes, while a search lists the nodes that it finds.
use Rattle.std.specs.Prelude.{◌≡◌, ◌↔◌, ◌++◌, ℕ, List, Bool, true, false, Some, Contains, nat_eq, slice_get}
use Rattle.std.specs.Prelude.{slice_index_or}
use Rattle.std.specs.List.{IsDistinct}
use Rattle.std.specs.declared.vec.Vec.{Vec}
use Rattle.std.specs.declared.alloc.Global.{Global}
use Rattle.jn_reach.specs.Graph.{Graph}

-- node b has a mark
abbrev pub IsMarked : List Bool → ℕ → Type 0
IsMarked marks b = slice_index_or marks b false ≡ true

-- no node has a mark
abbrev pub AreClear : List Bool → Type 0
AreClear marks = (b : ℕ) → IsMarked marks b → ⊥

-- the nodes are exactly those of which P holds
abbrev pub Holds : (ℕ → Type 0) → List ℕ → Type 0
Holds P nodes = (b : ℕ) → Contains nodes b ↔ P b

-- the nodes are exactly those with a mark, each once
pub record AreMarks (nodes : List ℕ) (marks : List Bool) : Type 0 where
  pub exact : Holds (IsMarked marks) nodes
  pub once : IsDistinct nat_eq nodes

-- new is old with more at its end, each of them a target, and holds each target
pub record Adds (targets old new : List ℕ) : Type 0 where
  pub more : List ℕ
  pub is : new ≡ old ++ more
  pub only : (b : ℕ) → Contains more b → Contains targets b
  pub all : (b : ℕ) → Contains targets b → Contains new b

-- the targets are those to which edges from the node lead
pub record AddsFrom (g : Graph) (node : ℕ) (old new : List ℕ) : Type 0 where
  pub row : Vec ℕ Global
  pub at : slice_get g node ≡ Some row
  pub adds : Adds row.items old new
