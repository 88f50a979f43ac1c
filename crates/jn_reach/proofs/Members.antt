-- How a loop over the nodes makes the lists of those that have one first.
use Rattle.std.proofs.Common.{◌≡◌, ◌<◌, ◌+◌, ℕ, List, [], ◌∷◌, ◌++◌, length, get_or, set, inl, inr, sym, ap, subst, ◌∙◌, arith, Some, slice_get}
use Rattle.std.proofs.lemmas.Bool.{cases_eq}
use Rattle.std.proofs.lemmas.Option.{slice_get_within, slice_get-get_or}
use Rattle.std.proofs.lemmas.List.{length-set}
use Rattle.std.specs.declared.vec.Vec.{Vec}
use Rattle.std.specs.declared.alloc.Global.{Global}
use Rattle.jn_reach.specs.Graph.{Graph}
use Rattle.jn_reach.specs.Pairs.{IsGraphOf, AddsEdge, AreMembers}
use Rattle.jn_reach.proofs.Edges.{slice_get-set_same, slice_get-set_other}
use Rattle.jn_reach.proofs.Listing.{Listing, Listing-empty, Listing-skip, Listing-push, Listing-done}
use Rattle.jn_reach.proofs.Searches.{same_some}

-- the number at b is a
abbrev IsAt : List ℕ → ℕ → ℕ → Type 0
IsAt firsts a b = slice_get firsts b ≡ Some a

-- row a lists those of the first n that have a
pub record Members (firsts : List ℕ) (n : ℕ) (rows : Graph) : Type 0 where
  pub long : length rows ≡ length firsts
  pub each : (a : ℕ) (row : Vec ℕ Global) → slice_get rows a ≡ Some row → Listing (λ b. slice_get firsts b ≡ Some a) n row.items

pub Members-none : (firsts : List ℕ) (rows : Graph) → IsGraphOf (length firsts) (λ _ _. ⊥) rows → Members firsts 0 rows
Members-none firsts rows g = record {
  long = g.long;
  each = λ a row at. Listing-empty (IsAt firsts a) row.items (λ b h. (g.edges a b).0 (record { row = row; at = at; in_row = h }));
}

pub Members-more : (firsts : List ℕ) (n d : ℕ) (old new : Graph) → n < length firsts → Members firsts n old → AddsEdge old new (get_or firsts n d) n → Members firsts (n + 1) new
Members-more firsts n d old new l m adds = rw adds.is (record { long = length-set old first adds.longer ∙ m.long; each = each }) where
  first : ℕ
  first = get_or firsts n d

  here : slice_get firsts n ≡ Some first
  here = slice_get-get_or firsts n d l

  each : (a : ℕ) (row : Vec ℕ Global) → slice_get (set old first adds.longer) a ≡ Some row → Listing (IsAt firsts a) (n + 1) row.items
  each a row at = elim (cases_eq a first) [
    | inr other ↦
        Listing-skip (IsAt firsts a) n row.items (λ h. other (same_some (slice_get firsts n) a first h here))
        (m.each a row (sym (slice_get-set_other old first a adds.longer other) ∙ at))
    | inl e ↦
        let at_first : slice_get (set old first adds.longer) first ≡ Some row = subst (λ k. slice_get (set old first adds.longer) k ≡ Some row) e at in
        let same : adds.longer ≡ row = same_some (slice_get (set old first adds.longer) first) adds.longer row
        (slice_get-set_same old first adds.longer (slice_get_within old first adds.row adds.at)) at_first in
        let items : (adds.row).items ++ n ∷ [] ≡ row.items = sym adds.pushed ∙ ap (λ (v : Vec ℕ Global). v.items) same in
        subst (Listing (IsAt firsts a) (n + 1)) items
        (Listing-push (IsAt firsts a) n (adds.row).items (subst (λ k. slice_get firsts n ≡ Some k) (sym e) here)
        (m.each a adds.row (subst (λ k. slice_get old k ≡ Some adds.row) (sym e) adds.at)))
  ]

pub Members-done : (firsts : List ℕ) (n : ℕ) (rows : Graph) → n ≡ length firsts → Members firsts n rows → AreMembers firsts rows
Members-done firsts n rows e m = record {
  long = m.long;
  each = λ a row at. Listing-done (IsAt firsts a) n row.items (λ b h. omega (arith, e, slice_get_within firsts b a h)) (m.each a row at);
}
