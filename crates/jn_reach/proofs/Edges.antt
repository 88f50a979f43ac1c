-- Graphs with no edge, and with one more.
use Rattle.std.proofs.Common.{◌≡◌, ◌≢◌, ◌<◌, ◌+◌, ◌↔◌, ◌⊎◌, ℕ, List, [], ◌∷◌, ◌++◌, Contains, length, get_or, set, inl, inr, sym, ap, subst, refl, ◌∙◌, arith, Some, Option, slice_get, length-append, zero, suc}
use Rattle.std.proofs.lemmas.Bool.{cases_lt, cases_eq}
use Rattle.std.proofs.lemmas.Option.{slice_get_within, slice_get-get_or}
use Rattle.std.proofs.lemmas.List.{length-set}
use Rattle.std.proofs.lemmas.List.Elements.{Contains-push, Contains-push_cases, Contains-append_left}
use Rattle.std.specs.declared.vec.Vec.{Vec}
use Rattle.std.specs.declared.alloc.Global.{Global}
use Rattle.jn_reach.specs.Graph.{Graph, HasEdge}
use Rattle.jn_reach.specs.Pairs.{IsGraphOf, AddsEdge}
use Rattle.jn_reach.proofs.Rows.{slice_get-push_cases}
use Rattle.jn_reach.proofs.Visits.{Contains-none}
use Rattle.jn_reach.proofs.Firsts.{slice_get-append_left, slice_get-push}

pub no_edges_none : (rows : Graph) → rows ≡ [] → IsGraphOf 0 (λ _ _. ⊥) rows
no_edges_none rows is = rw is (record { long = refl; edges = λ a b. (λ h. none a b h, λ h. absurd h) }) where
  none : (a b : ℕ) → HasEdge [] a b → ⊥
  none a b h = omega (arith, slice_get_within [] a h.row h.at)

pub no_edges_more : (rows : Graph) (row : Vec ℕ Global) (n : ℕ) → row.items ≡ [] → IsGraphOf n (λ _ _. ⊥) rows → IsGraphOf (n + 1) (λ _ _. ⊥) (rows ++ row ∷ [])
no_edges_more rows row n empty g = record {
  long = omega (arith, g.long, length-append rows (row ∷ []));
  edges = λ a b. (λ h. none a b h (slice_get-push_cases rows row a h.row h.at), λ h. absurd h);
} where
  none : (a b : ℕ) (h : HasEdge (rows ++ row ∷ []) a b) → (slice_get rows a ≡ Some h.row) ⊎ ((a ≡ length rows) × (h.row ≡ row)) → ⊥
  none a b h (inl at) = (g.edges a b).0 (record { row = h.row; at = at; in_row = h.in_row })
  none a b h (inr e) = Contains-none b (subst (λ (xs : List ℕ). Contains xs b) (ap (λ (v : Vec ℕ Global). v.items) e.1 ∙ empty) h.in_row)

pub slice_get-set_same : {X : Type 0} (xs : List X) (i : ℕ) (x : X) → i < length xs → slice_get (set xs i x) i ≡ Some x
slice_get-set_same [] i x l = absurd (omega (arith, l))
slice_get-set_same (y ∷ ys) zero x l = refl
slice_get-set_same (y ∷ ys) (suc i) x l = slice_get-set_same ys i x (omega (arith, l))

pub slice_get-set_other : {X : Type 0} (xs : List X) (i j : ℕ) (x : X) → j ≢ i → slice_get (set xs i x) j ≡ slice_get xs j
slice_get-set_other [] i j x n = refl
slice_get-set_other (y ∷ ys) zero zero x n = absurd (n refl)
slice_get-set_other (y ∷ ys) zero (suc j) x n = refl
slice_get-set_other (y ∷ ys) (suc i) zero x n = refl
slice_get-set_other (y ∷ ys) (suc i) (suc j) x n = slice_get-set_other ys i j x (λ e. n (ap suc e))

same_row : {X : Type 0} (o : Option X) (x y : X) → o ≡ Some x → o ≡ Some y → x ≡ y
same_row o x y p q = cc

-- one more number at the end of a row
pub AddsEdge-set : (g : Graph) (from to : ℕ) (row new : Vec ℕ Global) → from < length g → row ≡ get_or g from row
    → new.items ≡ row.items ++ to ∷ [] → AddsEdge g (set g from new) from to
AddsEdge-set g from to row new l is pushed = record {
  row = row;
  at = slice_get-get_or g from row l ∙ ap Some (sym is);
  longer = new;
  pushed = pushed;
  is = refl;
}

-- the graph has one more edge
pub record HasMore (old new : Graph) (from to : ℕ) : Type 0 where
  pub long : length new ≡ length old
  pub edges : (a b : ℕ) → HasEdge new a b ↔ (HasEdge old a b ⊎ ((a ≡ from) × (b ≡ to)))

set_more : (g : Graph) (from to : ℕ) (row new : Vec ℕ Global) → slice_get g from ≡ Some row
    → new.items ≡ row.items ++ to ∷ [] → HasMore g (set g from new) from to
set_more g from to row new at_from pushed = record { long = length-set g from new; edges = λ a b. (forward a b, backward a b) } where
  l : from < length g
  l = slice_get_within g from row at_from

  in_old : (a b : ℕ) → a ≡ from → Contains row.items b → HasEdge g a b
  in_old a b e h = record { row = row; at = subst (λ k. slice_get g k ≡ Some row) (sym e) at_from; in_row = h }

  forward : (a b : ℕ) → HasEdge (set g from new) a b → HasEdge g a b ⊎ ((a ≡ from) × (b ≡ to))
  forward a b h = elim (cases_eq a from) [
    | inr n ↦ inl (record { row = h.row; at = sym (slice_get-set_other g from a new n) ∙ h.at; in_row = h.in_row })
    | inl e ↦
        let at_a : slice_get (set g from new) from ≡ Some h.row = subst (λ k. slice_get (set g from new) k ≡ Some h.row) e h.at in
        let same : h.row ≡ new = same_row (slice_get (set g from new) from) h.row new at_a (slice_get-set_same g from new l) in
        let c : Contains (row.items ++ to ∷ []) b = subst (λ (xs : List ℕ). Contains xs b) (ap (λ (v : Vec ℕ Global). v.items) same ∙ pushed) h.in_row in
        elim (Contains-push_cases row.items to b c) [
          | inl o ↦ inl (in_old a b e o)
          | inr t ↦ inr (e, sym t)
        ]
  ]

  in_new : (a b : ℕ) → a ≡ from → Contains (row.items ++ to ∷ []) b → HasEdge (set g from new) a b
  in_new a b e h = record {
    row = new;
    at = subst (λ k. slice_get (set g from new) k ≡ Some new) (sym e) (slice_get-set_same g from new l);
    in_row = subst (λ (xs : List ℕ). Contains xs b) (sym pushed) h;
  }

  backward : (a b : ℕ) → HasEdge g a b ⊎ ((a ≡ from) × (b ≡ to)) → HasEdge (set g from new) a b
  backward a b (inr e) = in_new a b e.0 (subst (Contains (row.items ++ to ∷ [])) (sym e.1) (Contains-push row.items to))
  backward a b (inl h) = elim (cases_eq a from) [
    | inr n ↦ record { row = h.row; at = slice_get-set_other g from a new n ∙ h.at; in_row = h.in_row }
    | inl e ↦
        let at_a : slice_get g from ≡ Some h.row = subst (λ k. slice_get g k ≡ Some h.row) e h.at in
        let same : h.row ≡ row = same_row (slice_get g from) h.row row at_a at_from in
        in_new a b e (Contains-append_left row.items (to ∷ []) b (subst (λ (v : Vec ℕ Global). Contains v.items b) same h.in_row))
  ]

pub AddsEdge-more : (old new : Graph) (from to : ℕ) → AddsEdge old new from to → HasMore old new from to
AddsEdge-more old new from to adds = rw adds.is (set_more old from to adds.row adds.longer adds.at adds.pushed)

-- the numbers below n in order
pub record CountsTo (n : ℕ) (nodes : List ℕ) : Type 0 where
  pub long : length nodes ≡ n
  pub at : (k : ℕ) → k < n → slice_get nodes k ≡ Some k

pub CountsTo-none : (nodes : List ℕ) → nodes ≡ [] → CountsTo 0 nodes
CountsTo-none nodes is = rw is (record { long = refl; at = λ k l. absurd (omega (arith, l)) })

pub CountsTo-more : (n : ℕ) (nodes : List ℕ) → CountsTo n nodes → CountsTo (n + 1) (nodes ++ n ∷ [])
CountsTo-more n nodes c = record { long = omega (arith, c.long, length-append nodes (n ∷ [])); at = at } where
  at : (k : ℕ) → k < n + 1 → slice_get (nodes ++ n ∷ []) k ≡ Some k
  at k l = elim (cases_lt k n) [
    | inl before ↦ slice_get-append_left nodes (n ∷ []) k k (c.at k before)
    | inr past ↦
        let e : length nodes ≡ k = omega (arith, c.long, l, past) in
        let f : n ≡ k = omega arith in
        subst (λ j. slice_get (nodes ++ n ∷ []) k ≡ Some j) f (subst (λ j. slice_get (nodes ++ n ∷ []) j ≡ Some n) e (slice_get-push nodes n))
  ]
