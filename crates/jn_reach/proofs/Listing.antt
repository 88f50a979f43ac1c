-- How a loop over the nodes lists those of which P holds.
use Rattle.std.proofs.Common.{All, ◌≡◌, ◌<◌, ℕ, ◌+◌, List, [], ◌∷◌, ◌++◌, Contains, length, get_or, arith, inl, inr, subst, length-append}
use Rattle.std.specs.List.Sorted.{IsStrictlyIncreasing}
use Rattle.std.proofs.lemmas.List.Elements.{Contains-push, Contains-push_cases, Contains-append_left, Contains-get_or, All-contains}
use Rattle.std.proofs.lemmas.List.{get_or_append_left, get_or_push}
use Rattle.std.proofs.lemmas.Bool.{cases_lt}
use Rattle.jn_reach.specs.Chain.{Chain}
use Rattle.jn_reach.specs.Graph.{Graph, HasEdge, InRange, Lists, Reached}
use Rattle.jn_reach.specs.Origins.{AreOrigins, IsFound}
use Rattle.jn_reach.proofs.Chains.{Chain-closed}
use Rattle.jn_reach.proofs.Numbering.{edge_in_range}
use Rattle.jn_reach.proofs.Visits.{Contains-one}
use Rattle.jn_reach.proofs.Firsts.{AreOrigins-reached}

-- the numbers below n of which P holds, in order
pub record Listing (P : ℕ → Type 0) (n : ℕ) (nodes : List ℕ) : Type 0 where
  pub below : (b : ℕ) → Contains nodes b → (b < n) × P b
  pub all : (b : ℕ) → b < n → P b → Contains nodes b
  pub ascending : IsStrictlyIncreasing nodes

pub Listing-none : (P : ℕ → Type 0) (nodes : List ℕ) → nodes ≡ [] → Listing P 0 nodes
Listing-none P nodes is = rw is (record {
  below = λ b h. absurd (omega (arith, h.1));
  all = λ b l h. absurd (omega (arith, l));
  ascending = λ k l. absurd (omega (arith, l));
})

-- a list with nothing in it
pub Listing-empty : (P : ℕ → Type 0) (nodes : List ℕ) → ((b : ℕ) → Contains nodes b → ⊥) → Listing P 0 nodes
Listing-empty P nodes none = record {
  below = λ b h. absurd (none b h);
  all = λ b l h. absurd (omega (arith, l));
  ascending = λ k l. absurd (none (get_or nodes k 0) (Contains-get_or nodes k 0 (omega (arith, l))));
}

pub Listing-skip : (P : ℕ → Type 0) (n : ℕ) (nodes : List ℕ) → (P n → ⊥) → Listing P n nodes → Listing P (n + 1) nodes
Listing-skip P n nodes none g = record {
  below = λ b h. let u = g.below b h in (omega (arith, u.0), u.1);
  all = all;
  ascending = g.ascending;
} where
  all : (b : ℕ) → b < n + 1 → P b → Contains nodes b
  all b l h = elim (cases_lt b n) [
    | inl before ↦ g.all b before h
    | inr past ↦ let e : b ≡ n = omega arith in absurd (none (subst P e h))
  ]

increasing_push : (xs : List ℕ) (n : ℕ) → ((b : ℕ) → Contains xs b → b < n) → IsStrictlyIncreasing xs → IsStrictlyIncreasing (xs ++ n ∷ [])
increasing_push xs n below inc k l = elim (cases_lt (k + 1) (length xs)) [
  | inl before ↦
      let now : k < length xs = omega arith in
      let e1 = get_or_append_left xs (n ∷ []) 0 k now in
      let e2 = get_or_append_left xs (n ∷ []) 0 (k + 1) before in
      omega (arith, e1, e2, inc k before)
  | inr past ↦
      let now : k < length xs = omega (arith, l, length-append xs (n ∷ [])) in
      let last : length xs ≡ k + 1 = omega arith in
      let e1 = get_or_append_left xs (n ∷ []) 0 k now in
      let e2 = get_or_push xs n 0 (k + 1) last in
      omega (arith, e1, e2, below (get_or xs k 0) (Contains-get_or xs k 0 now))
]

pub Listing-push : (P : ℕ → Type 0) (n : ℕ) (nodes : List ℕ) → P n → Listing P n nodes → Listing P (n + 1) (nodes ++ n ∷ [])
Listing-push P n nodes holds g = record {
  below = below;
  all = all;
  ascending = increasing_push nodes n (λ b h. (g.below b h).0) g.ascending;
} where
  below : (b : ℕ) → Contains (nodes ++ n ∷ []) b → (b < n + 1) × P b
  below b h = elim (Contains-push_cases nodes n b h) [
    | inl old ↦ let u = g.below b old in (omega (arith, u.0), u.1)
    | inr e ↦ (omega arith, subst P e holds)
  ]

  all : (b : ℕ) → b < n + 1 → P b → Contains (nodes ++ n ∷ []) b
  all b l h = elim (cases_lt b n) [
    | inl before ↦ Contains-append_left nodes (n ∷ []) b (g.all b before h)
    | inr past ↦ let e : n ≡ b = omega arith in subst (Contains (nodes ++ n ∷ [])) e (Contains-push nodes n)
  ]

pub Listing-done : (P : ℕ → Type 0) (n : ℕ) (nodes : List ℕ) → ((b : ℕ) → P b → b < n) → Listing P n nodes → Lists P nodes
Listing-done P n nodes within g = record {
  exact = λ b. (λ h. (g.below b h).1, λ h. g.all b (within b h) h);
  ascending = g.ascending;
}

-- what is listed of P is listed of what holds of the same
pub Lists-same : (P Q : ℕ → Type 0) (nodes : List ℕ) → ((b : ℕ) → P b → Q b) → ((b : ℕ) → Q b → P b) → Lists P nodes → Lists Q nodes
Lists-same P Q nodes to from l = record {
  exact = λ b. (λ h. to b ((l.exact b).0 h), λ h. (l.exact b).1 (from b h));
  ascending = l.ascending;
}

pub Lists-reached : (g : Graph) (starts nodes : List ℕ) (m : _) → AreOrigins g starts m → Lists (IsFound m) nodes → Lists (Reached g starts) nodes
Lists-reached g starts nodes m are = Lists-same (IsFound m) (Reached g starts) nodes (AreOrigins-reached g starts m are) are.complete

-- from one start alone
pub Lists-from : (g : Graph) (a : ℕ) (nodes : List ℕ) → Lists (Reached g (a ∷ [])) nodes → Lists (Chain (HasEdge g) a) nodes
Lists-from g a nodes = Lists-same (Reached g (a ∷ [])) (Chain (HasEdge g) a) nodes
    (λ b r. let e = Contains-one a r.start r.among in subst (λ k. Chain (HasEdge g) k b) e r.chain)
    (λ b h. record { start = a; among = Contains-push [] a; chain = h })

-- what a graph in range reaches from nodes is in range
pub reached_within : (g : Graph) (starts nodes : List ℕ) → InRange g (length g) → All (λ s. s < length g) starts → Lists (Reached g starts) nodes
    → All (λ b. b < length g) nodes
reached_within g starts nodes within starts_in l k d m =
    let r = (l.exact (get_or nodes k d)).0 (Contains-get_or nodes k d m) in
    Chain-closed (HasEdge g) (λ (x : ℕ). x < length g) (λ a b _ e. edge_in_range g within a b e) r.chain
    (All-contains (λ (x : ℕ). x < length g) starts r.start starts_in r.among)
