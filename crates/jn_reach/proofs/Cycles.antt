-- A node leads back to itself where a closure's row of a node that an edge leads to has it.
use Rattle.std.proofs.Common.{◌≡◌, ◌<◌, ◌+◌, ◌↔◌, ℕ, length, slice_get, Some, arith, subst, Contains, Bool, IsTrue, inl, inr}
use Rattle.std.specs.List.{Any}
use Rattle.std.specs.declared.vec.Vec.{Vec}
use Rattle.std.specs.declared.alloc.Global.{Global}
use Rattle.std.proofs.lemmas.Bool.{cases_lt}
use Rattle.std.proofs.lemmas.Option.{slice_get_within, slice_get_cases}
use Rattle.jn_reach.specs.Chain.{Chain, here, Steps}
use Rattle.jn_reach.specs.Graph.{Graph, HasEdge, InRange, IsClosure}
use Rattle.jn_reach.proofs.Chains.{Chain-joined}
use Rattle.jn_reach.proofs.Searches.{same_some}
use Rattle.jn_reach.proofs.Numbering.{edge_in_range}

pub edge_by_row : (rows : Graph) (from to : ℕ) (row : Vec ℕ Global) (b : Bool) → slice_get rows from ≡ Some row
    → IsTrue b ↔ Contains row.items to → IsTrue b ↔ HasEdge rows from to
edge_by_row rows from to row b at i = (
  λ h. record { row = row; at = at; in_row = i.0 h },
  λ e. i.1 (subst (λ (r : Vec ℕ Global). Contains r.items to) (same_some (slice_get rows from) e.row row e.at at) e.in_row),
)

-- an edge of the closure is a chain
pub closure_edge : (g rows : Graph) → IsClosure g rows → (a b : ℕ) → HasEdge rows a b → Chain (HasEdge g) a b
closure_edge g rows c a b e = ((c.each a e.row e.at).exact b).0 e.in_row

pub closure_has : (g rows : Graph) → IsClosure g rows → (a b : ℕ) → a < length g → Chain (HasEdge g) a b → HasEdge rows a b
closure_has g rows c a b l p = elim (slice_get_cases rows a).1 [
  | inl found ↦ record { row = found.0; at = found.2; in_row = ((c.each a found.0 found.2).exact b).1 p }
  | inr past ↦ absurd (omega (arith, past.0, l, c.long))
]

-- the test of a node by its row
pub steps_by_row : (g rows : Graph) (n : ℕ) (row : Vec ℕ Global) → InRange g (length g) → IsClosure g rows → slice_get g n ≡ Some row
    → Any (λ (q : ℕ). HasEdge rows q n) row.items ↔ Steps (HasEdge g) n n
steps_by_row g rows n row within c at = (to, from) where
  to : Any (λ (q : ℕ). HasEdge rows q n) row.items → Steps (HasEdge g) n n
  to h = record {
    between = h.1;
    first = record { row = row; at = at; in_row = (h.0, h.2, h.3) };
    rest = closure_edge g rows c h.1 n h.4;
  }

  from : Steps (HasEdge g) n n → Any (λ (q : ℕ). HasEdge rows q n) row.items
  from s =
      let e = s.first in
      let in_row : Contains row.items s.between = subst (λ (r : Vec ℕ Global). Contains r.items s.between) (same_some (slice_get g n) e.row row e.at at) e.in_row in
      (in_row.0, s.between, in_row.1, in_row.2, closure_has g rows c s.between n (edge_in_range g within n s.between e) s.rest)

pub none_cyclic : (g : Graph) (i : ℕ) → (Steps (HasEdge g) i i → ⊥)
    → ((k : ℕ) → k < i → Steps (HasEdge g) k k → ⊥) → (k : ℕ) → k < i + 1 → Steps (HasEdge g) k k → ⊥
none_cyclic g i none before k l s = elim (cases_lt k i) [
  | inl b ↦ before k b s
  | inr past ↦ let e : k ≡ i = omega arith in none (subst (λ j. Steps (HasEdge g) j j) e s)
]

-- a node with an edge is in range
pub steps_within : (g : Graph) (k : ℕ) → Steps (HasEdge g) k k → k < length g
steps_within g k s = slice_get_within g k (s.first).row (s.first).at

-- each node is in its row of a closure, and the rows are transitive
pub closure_itself : (g rows : Graph) → IsClosure g rows → (a : ℕ) → a < length g → HasEdge rows a a
closure_itself g rows c a l = closure_has g rows c a a l here

pub closure_joined : (g rows : Graph) → IsClosure g rows → (a b d : ℕ) → HasEdge rows a b → HasEdge rows b d → HasEdge rows a d
closure_joined g rows c a b d e f =
    closure_has g rows c a d (omega (arith, slice_get_within rows a e.row e.at, c.long))
    (Chain-joined (HasEdge g) (closure_edge g rows c a b e) (closure_edge g rows c b d f))
