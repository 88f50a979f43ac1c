-- How a graph is made of pairs, and what its chains are.
use Rattle.std.proofs.Common.{◌≡◌, ◌<◌, ◌≤◌, ◌+◌, ◌↔◌, ◌⊎◌, ℕ, List, [], ◌∷◌, ◌++◌, All, Contains, length, get_or, take, inl, inr, sym, ap, subst, ◌∙◌, arith, Some, Option, slice_get, length-append}
use Rattle.std.proofs.lemmas.Bool.{cases_lt}
use Rattle.std.proofs.lemmas.Option.{slice_get-get_or, slice_get_within, get_or_from_slice_get}
use Rattle.std.proofs.lemmas.List.{take_more, take_all, get_or_append_left, get_or_push, get_or_default}
use Rattle.std.proofs.lemmas.List.Elements.{Contains-push, Contains-push_cases, Contains-append_left, Contains-get_or, All-contains}
use Rattle.jn_reach.specs.Chain.{Chain, here}
use Rattle.jn_reach.specs.Derived.{Derived, seed}
use Rattle.jn_reach.specs.Equivalent.{Equivalent, itself, turned, joined, Either, forth, back}
use Rattle.jn_reach.specs.Graph.{Graph, HasEdge, InRange, Reached}
use Rattle.jn_reach.specs.Origins.{HasOrigin, IsFound, IsOrigin, AreOrigins}
use Rattle.jn_reach.specs.Pairs.{IsPair, AreBelow, IsGraphOf, AddsEdge, IsFirst, AreFirsts}
use Rattle.jn_reach.proofs.Chains.{Chain-map, Chain-one, chain-Equivalent, Equivalent-chain, Derived-chain, chain-Derived}
use Rattle.jn_reach.proofs.Edges.{HasMore, AddsEdge-more}
use Rattle.jn_reach.proofs.Visits.{Contains-none}

-- the edges of a graph lead to its nodes where the relation leads to numbers below n
pub graph_in_range : (n : ℕ) (R : ℕ → ℕ → Type 0) (g : Graph) → IsGraphOf n R g → ((a b : ℕ) → R a b → b < n) → InRange g (length g)
graph_in_range n R g is within i row l k d m =
    let v = get_or g i row in
    let e : HasEdge g i (get_or v.items k d) = record { row = v; at = slice_get-get_or g i row l; in_row = Contains-get_or v.items k d m } in
    omega (arith, is.long, within i (get_or v.items k d) ((is.edges i (get_or v.items k d)).0 e))

pub pair_within : (n : ℕ) (pairs : List (ℕ × ℕ)) → AreBelow n pairs → (a b : ℕ) → IsPair pairs a b → (a < n) × (b < n)
pair_within n pairs below a b h = All-contains (λ (p : ℕ × ℕ). (p.0 < n) × (p.1 < n)) pairs (a, b) below h

pub pair_either_within : (n : ℕ) (pairs : List (ℕ × ℕ)) → AreBelow n pairs → (a b : ℕ) → Either (IsPair pairs) a b → b < n
pair_either_within n pairs below a b (forth h) = (pair_within n pairs below a b h).1
pair_either_within n pairs below a b (back h) = (pair_within n pairs below b a h).0

pair_more : (xs : List (ℕ × ℕ)) (p : ℕ × ℕ) (a b : ℕ) → IsPair (xs ++ p ∷ []) a b ↔ (IsPair xs a b ⊎ ((a ≡ p.0) × (b ≡ p.1)))
pair_more xs p a b = (to, from) where
  to : IsPair (xs ++ p ∷ []) a b → IsPair xs a b ⊎ ((a ≡ p.0) × (b ≡ p.1))
  to h = elim (Contains-push_cases xs p (a, b) h) [
    | inl old ↦ inl old
    | inr e ↦ inr (sym (ap (λ (q : ℕ × ℕ). q.0) e), sym (ap (λ (q : ℕ × ℕ). q.1) e))
  ]

  from : IsPair xs a b ⊎ ((a ≡ p.0) × (b ≡ p.1)) → IsPair (xs ++ p ∷ []) a b
  from (inl old) = Contains-append_left xs (p ∷ []) (a, b) old
  from (inr e) =
      subst (λ x. Contains (xs ++ p ∷ []) (x, b)) (sym e.0)
      (subst (λ y. Contains (xs ++ p ∷ []) (p.0, y)) (sym e.1) (Contains-push xs p))

pair_next : (pairs : List (ℕ × ℕ)) (i : ℕ) (d : ℕ × ℕ) → i < length pairs
    → (a b : ℕ) → IsPair (take (i + 1) pairs) a b ↔ (IsPair (take i pairs) a b ⊎ ((a ≡ (get_or pairs i d).0) × (b ≡ (get_or pairs i d).1)))
pair_next pairs i d l a b =
    let p = get_or pairs i d in
    subst (λ (xs : List (ℕ × ℕ)). IsPair xs a b ↔ (IsPair (take i pairs) a b ⊎ ((a ≡ p.0) × (b ≡ p.1)))) (sym (take_more pairs i d l)) (pair_more (take i pairs) p a b)

-- one more pair
pub IsGraphOf-pair : (n : ℕ) (pairs : List (ℕ × ℕ)) (i : ℕ) (d : ℕ × ℕ) (old new : Graph) → i < length pairs
    → IsGraphOf n (IsPair (take i pairs)) old → AddsEdge old new (get_or pairs i d).0 (get_or pairs i d).1 → IsGraphOf n (IsPair (take (i + 1) pairs)) new
IsGraphOf-pair n pairs i d old new l g added = record { long = adds.long ∙ g.long; edges = λ a b. (to a b, from a b) } where
  adds : HasMore old new (get_or pairs i d).0 (get_or pairs i d).1
  adds = AddsEdge-more old new (get_or pairs i d).0 (get_or pairs i d).1 added

  to : (a b : ℕ) → HasEdge new a b → IsPair (take (i + 1) pairs) a b
  to a b h = elim ((adds.edges a b).0 h) [
    | inl o ↦ (pair_next pairs i d l a b).1 (inl ((g.edges a b).0 o))
    | inr e ↦ (pair_next pairs i d l a b).1 (inr e)
  ]

  from : (a b : ℕ) → IsPair (take (i + 1) pairs) a b → HasEdge new a b
  from a b h = elim ((pair_next pairs i d l a b).0 h) [
    | inl o ↦ (adds.edges a b).1 (inl ((g.edges a b).1 o))
    | inr e ↦ (adds.edges a b).1 (inr e)
  ]

-- one more pair, in both directions
pub IsGraphOf-both : (n : ℕ) (pairs : List (ℕ × ℕ)) (i : ℕ) (d : ℕ × ℕ) (old mid new : Graph) → i < length pairs
    → IsGraphOf n (Either (IsPair (take i pairs))) old
    → AddsEdge old mid (get_or pairs i d).0 (get_or pairs i d).1 → AddsEdge mid new (get_or pairs i d).1 (get_or pairs i d).0
    → IsGraphOf n (Either (IsPair (take (i + 1) pairs))) new
IsGraphOf-both n pairs i d old mid new l g added turned_added = record { long = turns.long ∙ adds.long ∙ g.long; edges = λ a b. (to a b, from a b) } where
  adds : HasMore old mid (get_or pairs i d).0 (get_or pairs i d).1
  adds = AddsEdge-more old mid (get_or pairs i d).0 (get_or pairs i d).1 added

  turns : HasMore mid new (get_or pairs i d).1 (get_or pairs i d).0
  turns = AddsEdge-more mid new (get_or pairs i d).1 (get_or pairs i d).0 turned_added

  more : (a b : ℕ) → IsPair (take i pairs) a b ⊎ ((a ≡ (get_or pairs i d).0) × (b ≡ (get_or pairs i d).1)) → IsPair (take (i + 1) pairs) a b
  more a b h = (pair_next pairs i d l a b).1 h

  either_more : (a b : ℕ) → Either (IsPair (take i pairs)) a b → Either (IsPair (take (i + 1) pairs)) a b
  either_more a b (forth h) = forth (more a b (inl h))
  either_more a b (back h) = back (more b a (inl h))

  to : (a b : ℕ) → HasEdge new a b → Either (IsPair (take (i + 1) pairs)) a b
  to a b h = elim ((turns.edges a b).0 h) [
    | inr e ↦ back (more b a (inr (e.1, e.0)))
    | inl k ↦ elim ((adds.edges a b).0 k) [
      | inr e ↦ forth (more a b (inr e))
      | inl o ↦ either_more a b ((g.edges a b).0 o)
    ]
  ]

  from : (a b : ℕ) → Either (IsPair (take (i + 1) pairs)) a b → HasEdge new a b
  from a b (forth h) = elim ((pair_next pairs i d l a b).0 h) [
    | inl o ↦ (turns.edges a b).1 (inl ((adds.edges a b).1 (inl ((g.edges a b).1 (forth o)))))
    | inr e ↦ (turns.edges a b).1 (inl ((adds.edges a b).1 (inr e)))
  ]
  from a b (back h) = elim ((pair_next pairs i d l b a).0 h) [
    | inl o ↦ (turns.edges a b).1 (inl ((adds.edges a b).1 (inl ((g.edges a b).1 (back o)))))
    | inr e ↦ (turns.edges a b).1 (inr (e.1, e.0))
  ]

-- the least set is what the graph of the rules reaches from the seeds
pub Reached-Derived : (n : ℕ) (R : ℕ → ℕ → Type 0) (g : Graph) (seeds : List ℕ) → IsGraphOf n R g → (b : ℕ) → Reached g seeds b → Derived (Contains seeds) R b
Reached-Derived n R g seeds is b r =
    Derived-chain (Contains seeds) R (seed r.among) (Chain-map (HasEdge g) R (λ x. x) (λ a c e. Chain-one R ((is.edges a c).0 e)) r.chain)

pub Derived-Reached : (n : ℕ) (R : ℕ → ℕ → Type 0) (g : Graph) (seeds : List ℕ) → IsGraphOf n R g → (b : ℕ) → Derived (Contains seeds) R b → Reached g seeds b
Derived-Reached n R g seeds is b d =
    let c = chain-Derived (Contains seeds) R d in
    record { start = c.0; among = c.1; chain = Chain-map R (HasEdge g) (λ x. x) (λ a c e. Chain-one (HasEdge g) ((is.edges a c).1 e)) c.2 }

-- each node below n is a start, so the origin of a node is the least of its class
module _ (E : ℕ → ℕ → Type 0) (n : ℕ) (g : Graph) (starts : List ℕ) (m : List (Option ℕ)) (is : IsGraphOf n (Either E) g)
    (long : length starts ≡ n) (at : (k : ℕ) → k < n → slice_get starts k ≡ Some k) (are : AreOrigins g starts m) where
  to_class : (a b : ℕ) → Chain (HasEdge g) a b → Equivalent E a b
  to_class a b c = chain-Equivalent E (Chain-map (HasEdge g) (Either E) (λ x. x) (λ x y e. Chain-one (Either E) ((is.edges x y).0 e)) c)

  from_class : (a b : ℕ) → Equivalent E a b → Chain (HasEdge g) a b
  from_class a b q = Chain-map (Either E) (HasEdge g) (λ x. x) (λ x y e. Chain-one (HasEdge g) ((is.edges x y).1 e)) (Equivalent-chain E q)

  pub has_first : (b : ℕ) → b < n → IsFound m b
  has_first b l = are.complete b (record { start = b; among = (b, omega (arith, l, long), get_or_from_slice_get starts b b b (at b l)); chain = here })

  pub is_first : (b s : ℕ) → HasOrigin m b s → IsFirst E b s
  is_first b s h = record { related = turned (to_class s b o.chain); least = least } where
    o : IsOrigin g starts b s
    o = are.sound b s h

    within : o.place < n
    within = omega (arith, long, slice_get_within starts o.place s o.at)

    placed : (x : Option ℕ) → x ≡ Some o.place → x ≡ Some s → o.place ≡ s
    placed x p q = cc

    least : (c : ℕ) → Equivalent E b c → s ≤ c
    least c q = elim (cases_lt c s) [
      | inr past ↦ past
      | inl before ↦
          let same : o.place ≡ s = placed (slice_get starts o.place) (at o.place within) o.at in
          absurd (o.first c c (omega (arith, same, before)) (at c (omega (arith, same, before, within))) (from_class c b (turned q)))
    ]

-- two numbers have one least number of their class exactly where they are in one class
pub same_first : (E : ℕ → ℕ → Type 0) (a b f h : ℕ) → IsFirst E a f → IsFirst E b h → (f ≡ h) ↔ Equivalent E a b
same_first E a b f h p q = (to, from) where
  to : f ≡ h → Equivalent E a b
  to e = joined p.related (turned (subst (Equivalent E b) (sym e) q.related))

  from : Equivalent E a b → f ≡ h
  from r =
      let x : f ≤ h = p.least h (joined r q.related) in
      let y : h ≤ f = q.least f (joined (turned r) p.related) in
      omega (arith, x, y)

pub AreFirsts-more : (E : ℕ → ℕ → Type 0) (n f : ℕ) (firsts : List ℕ) → AreFirsts E n firsts → IsFirst E n f → AreFirsts E (n + 1) (firsts ++ f ∷ [])
AreFirsts-more E n f firsts are is = record { long = omega (arith, are.long, length-append firsts (f ∷ [])); each = each } where
  each : (a : ℕ) → a < n + 1 → IsFirst E a (get_or (firsts ++ f ∷ []) a 0)
  each a l = elim (cases_lt a n) [
    | inl before ↦
        let within : a < length firsts = omega (arith, before, are.long) in
        subst (IsFirst E a) (sym (get_or_append_left firsts (f ∷ []) 0 a within)) (are.each a before)
    | inr past ↦
        let same : n ≡ a = omega arith in
        let last : length firsts ≡ a = omega (arith, are.long) in
        subst (IsFirst E a) (sym (get_or_push firsts f 0 a last)) (subst (λ k. IsFirst E k f) same is)
  ]

-- the same graph by another relation
IsGraphOf-same : (n : ℕ) (R S : ℕ → ℕ → Type 0) (g : Graph) → ((a b : ℕ) → R a b → S a b) → ((a b : ℕ) → S a b → R a b) → IsGraphOf n R g → IsGraphOf n S g
IsGraphOf-same n R S g to from is = record { long = is.long; edges = λ a b. (λ h. to a b ((is.edges a b).0 h), λ h. (is.edges a b).1 (from a b h)) }

-- no pair is met yet
pub no_pair : (n : ℕ) (g : Graph) → IsGraphOf n (λ _ _. ⊥) g → IsGraphOf n (IsPair []) g
no_pair n g = IsGraphOf-same n (λ _ _. ⊥) (IsPair []) g (λ a b h. absurd h) (λ a b h. Contains-none (a, b) h)

no_either : (a b : ℕ) → Either (IsPair []) a b → ⊥
no_either a b (forth h) = Contains-none (a, b) h
no_either a b (back h) = Contains-none (b, a) h

pub no_pair_either : (n : ℕ) (g : Graph) → IsGraphOf n (λ _ _. ⊥) g → IsGraphOf n (Either (IsPair [])) g
no_pair_either n g = IsGraphOf-same n (λ _ _. ⊥) (Either (IsPair [])) g (λ a b h. absurd h) no_either

-- each node is a start in range
pub starts_within : (n m : ℕ) (starts : List ℕ) → m ≡ n → length starts ≡ n → ((k : ℕ) → k < n → slice_get starts k ≡ Some k) → All (λ s. s < m) starts
starts_within n m starts same long at k d l =
    let within : k < n = omega (arith, l, long) in
    omega (arith, within, same, get_or_from_slice_get starts k k d (at k within))

-- the least number of a class is no greater than any of it
pub firsts_within : (E : ℕ → ℕ → Type 0) (n : ℕ) (firsts : List ℕ) → AreFirsts E n firsts → All (λ f. f < n) firsts
firsts_within E n firsts are k d l =
    let within : k < n = omega (arith, l, are.long) in
    let least : get_or firsts k 0 ≤ k = (are.each k within).least k itself in
    omega (arith, within, least, get_or_default firsts k d 0 l)

-- all pairs are met
pub all_pairs : (n i : ℕ) (pairs : List (ℕ × ℕ)) (g : Graph) → length pairs ≤ i → IsGraphOf n (IsPair (take i pairs)) g → IsGraphOf n (IsPair pairs) g
all_pairs n i pairs g past is = subst (λ (xs : List (ℕ × ℕ)). IsGraphOf n (IsPair xs) g) (take_all i pairs past) is
