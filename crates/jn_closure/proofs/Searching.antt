-- What the search from one start keeps, and what it has found at its end.
use Rattle.std.proofs.Common.{◌≡◌, ◌<◌, ◌≤◌, ◌+◌, ℕ, List, [], ◌∷◌, ◌++◌, Bool, Contains, IsPermutation, length}
use Rattle.std.proofs.Common.{get_or, nat_eq, slice_get, inl, inr, arith, sym, ◌∙◌, ap, subst, length-append}
use Rattle.std.specs.List.Sorted.{IsSorted}
use Rattle.std.specs.Ordering.{nat_cmp}
use Rattle.std.specs.Cmp.{nat_eq_equiv}
use Rattle.std.specs.declared.vec.Vec.{Vec}
use Rattle.std.specs.declared.alloc.Global.{Global}
use Rattle.std.proofs.lemmas.Bool.{cases_lt}
use Rattle.std.proofs.lemmas.List.{get_or_append_left, get_or_default}
use Rattle.std.proofs.lemmas.List.Elements.{Contains-get_or, Contains-append_left, Contains-append_cases, Contains-push}
use Rattle.std.proofs.lemmas.List.Sorted.{Contains-permutation, IsPermutation-sym, IsNonDecreasingBy-from_sort}
use Rattle.std.proofs.lemmas.Map.Keys.{IsDistinct-IsPermutation, IsStrictlyIncreasing-from_distinct}
use Rattle.jn_reach.specs.Chain.{Chain, here}
use Rattle.jn_reach.specs.Graph.{Graph, HasEdge, Lists}
use Rattle.jn_reach.proofs.Chains.{Chain-push, Chain-closed}
use Rattle.jn_reach.proofs.Searches.{same_some}
use Rattle.jn_reach.proofs.Visits.{Contains-one}
use Rattle.jn_closure.specs.Marks.{AreMarks, Adds, AddsFrom, Holds}
use Rattle.jn_closure.proofs.Marking.{marked_within}

-- the nodes have marks and are reached from the start, which is among them; the edges of the first ones are followed
pub record Searched (g : Graph) (start next : ℕ) (marks : List Bool) (nodes : List ℕ) : Type 0 where
  pub long : length marks ≡ length g
  pub marked : AreMarks nodes marks
  pub started : Contains nodes start
  pub reached : (b : ℕ) → Contains nodes b → Chain (HasEdge g) start b
  pub passed : next ≤ length nodes
  pub closed : (k b : ℕ) → k < next → HasEdge g (get_or nodes k 0) b → Contains nodes b

pub Searched-begun : (g : Graph) (start : ℕ) (marks : List Bool) (none nodes : List ℕ) → none ≡ []
    → length marks ≡ length g → AreMarks nodes marks → Adds (start ∷ []) none nodes → Searched g start 0 marks nodes
Searched-begun g start marks none nodes empty long m v = record {
  long = long;
  marked = m;
  started = v.all start (Contains-push [] start);
  reached = λ b h. subst (Chain (HasEdge g) start) (sym (Contains-one start b (v.only b (new b h)))) here;
  passed = omega arith;
  closed = λ k b l. absurd (omega (arith, l));
} where
  new : (b : ℕ) → Contains nodes b → Contains v.more b
  new b h = subst (λ (xs : List ℕ). Contains xs b) (v.is ∙ ap (λ xs. xs ++ v.more) empty) h

-- the edges of the next node are followed
pub Searched-more : (g : Graph) (start next node : ℕ) (marks marks' : List Bool) (nodes nodes' : List ℕ)
    → next < length nodes → node ≡ get_or nodes next node → length marks' ≡ length marks
    → Searched g start next marks nodes → AreMarks nodes' marks' → AddsFrom g node nodes nodes'
    → Searched g start (next + 1) marks' nodes'
Searched-more g start next node marks marks' nodes nodes' l is long s m f = record {
  long = long ∙ s.long;
  marked = m;
  started = still start s.started;
  reached = λ b h. elim (Contains-append_cases nodes v.more b (rw (sym v.is) h)) [
    | inl old ↦ s.reached b old
    | inr new ↦ Chain-push (HasEdge g) (s.reached node among) (record { row = f.row; at = f.at; in_row = v.only b new })
  ];
  passed = omega (arith, l, ap length v.is, length-append nodes v.more);
  closed = λ k b k_in e. elim (cases_lt k next) [
    | inl before ↦ still b (s.closed k b before (subst (λ a. HasEdge g a b) (as_before k (omega (arith, before, l))) e))
    | inr past ↦
        let last : k ≡ next = omega arith in
        let here = as_before k (omega (arith, last, l)) ∙ ap (λ j. get_or nodes j 0) last ∙ at_next in
        v.all b (in_row b (subst (λ a. HasEdge g a b) here e))
  ];
} where
  v : Adds f.row.items nodes nodes'
  v = f.adds

  at_next : get_or nodes next 0 ≡ node
  at_next = get_or_default nodes next 0 node l ∙ sym is

  still : (b : ℕ) → Contains nodes b → Contains nodes' b
  still b h = rw v.is (Contains-append_left nodes v.more b h)

  among : Contains nodes node
  among = subst (Contains nodes) (sym is) (Contains-get_or nodes next node l)

  as_before : (k : ℕ) → k < length nodes → get_or nodes' k 0 ≡ get_or nodes k 0
  as_before k k_in = ap (λ xs. get_or xs k 0) v.is ∙ get_or_append_left nodes v.more 0 k k_in

  in_row : (b : ℕ) → HasEdge g node b → Contains f.row.items b
  in_row b h =
      let same : h.row ≡ f.row = same_some (slice_get g node) h.row f.row h.at f.at in
      subst (λ (r : Vec ℕ Global). Contains r.items b) same h.in_row

-- a node has a row
pub Searched-within : (g : Graph) (start next node : ℕ) (marks : List Bool) (nodes : List ℕ) → next < length nodes
    → node ≡ get_or nodes next node → Searched g start next marks nodes → node < length g
Searched-within g start next node marks nodes l is s =
    let among : Contains nodes node = subst (Contains nodes) (sym is) (Contains-get_or nodes next node l) in
    omega (arith, s.long, marked_within marks node ((s.marked.exact node).0 among))

-- where the edges of all are followed, the nodes are what the start reaches
pub Searched-done : (g : Graph) (start next : ℕ) (marks : List Bool) (nodes : List ℕ) → length nodes ≤ next
    → Searched g start next marks nodes → Holds (Chain (HasEdge g) start) nodes
Searched-done g start next marks nodes all s b =
    (s.reached b, λ p. Chain-closed (HasEdge g) (Contains nodes) closed p s.started)
  where
    closed : (a b : ℕ) → Contains nodes a → HasEdge g a b → Contains nodes b
    closed a b h e =
        let at : a ≡ get_or nodes h.0 0 = sym (get_or_default nodes h.0 0 a h.1 ∙ h.2) in
        s.closed h.0 b (omega (arith, all, h.1)) (subst (λ k. HasEdge g k b) at e)

-- the nodes in order
pub Lists-sorted : (P : ℕ → Type 0) (marks : List Bool) (nodes sorted : List ℕ) → AreMarks nodes marks → Holds P nodes
    → IsPermutation nodes sorted → IsSorted nat_cmp sorted → Lists P sorted
Lists-sorted P marks nodes sorted m holds p up = record {
  exact = λ b. (
    λ h. (holds b).0 (Contains-permutation sorted nodes b (IsPermutation-sym nodes sorted p) h),
    λ h. Contains-permutation nodes sorted b p ((holds b).1 h),
  );
  ascending = IsStrictlyIncreasing-from_distinct sorted (IsNonDecreasingBy-from_sort (λ n. n) sorted up)
      (IsDistinct-IsPermutation nat_eq nat_eq_equiv.symm nodes sorted p m.once);
}
