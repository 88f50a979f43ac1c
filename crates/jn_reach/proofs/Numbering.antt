-- A relation on numbered things against the relation of their numbers: each closure of the one numbers that of the other.
use Rattle.std.proofs.Common.{◌≡◌, ◌<◌, ◌↔◌, ℕ, List, length, slice_get, get_or, Some, arith, subst, All, inl, inr}
use Rattle.std.specs.declared.vec.Vec.{Vec}
use Rattle.std.specs.declared.alloc.Global.{Global}
use Rattle.std.proofs.lemmas.Option.{slice_get_within, slice_get_cases, slice_get-get_or, get_or_from_slice_get}
use Rattle.std.proofs.lemmas.List.Elements.{Contains-get_or, All-contains}
use Rattle.jn_reach.specs.Chain.{Chain, here, step, Steps}
use Rattle.jn_reach.specs.Derived.{Derived, seed}
use Rattle.jn_reach.specs.Equivalent.{Equivalent, Turned, Either, forth, back}
use Rattle.jn_reach.specs.Graph.{Graph, HasEdge, InRange, IsClosure}
use Rattle.jn_reach.specs.Numbers.{Numbers, NumbersSet, NumbersPairs, AreDistinct}
use Rattle.jn_reach.proofs.Chains.{Chain-closed, Equivalent-chain, chain-Equivalent, Derived-chain, chain-Derived}
use Rattle.jn_reach.proofs.Searches.{same_some}

-- chains

module _ {A : Type 0} (E : A → A → Type 0) (xs : List A) (R : ℕ → ℕ → Type 0) (n : Numbers E xs R) where
  chain_sound : {i j : ℕ} → Chain R i j → (x : A) → slice_get xs i ≡ Some x → (y : A) × (slice_get xs j ≡ Some y) × Chain E x y
  chain_sound here x at = (x, at, here)
  chain_sound (step {a = i} {b = k} e p) x at =
      let next = n.sound i k x at e in
      let end = chain_sound p next.0 next.1 in
      (end.0, end.1, step next.2 end.2)

  chain_complete : {x y : A} → Chain E x y → (i : ℕ) → slice_get xs i ≡ Some x → (j : ℕ) × (slice_get xs j ≡ Some y) × Chain R i j
  chain_complete here i at = (i, at, here)
  chain_complete (step {a = x} {b = z} e p) i at =
      let next = n.complete i x z at e in
      let end = chain_complete p next.0 next.1 in
      (end.0, end.1, step next.2 end.2)

  -- chains of numbers number the chains of things
  pub Numbers-chain : Numbers (Chain E) xs (Chain R)
  Numbers-chain = record { sound = λ i j x at p. chain_sound p x at; complete = λ i x y at p. chain_complete p i at }

  pub Numbers-steps : Numbers (Steps E) xs (Steps R)
  Numbers-steps = record {
    sound = λ i j x at s.
        let next = n.sound i s.between x at s.first in
        let end = chain_sound s.rest next.0 next.1 in
        (end.0, end.1, record { between = next.0; first = next.2; rest = end.2 });
    complete = λ i x y at s.
        let next = n.complete i x s.between at s.first in
        let end = chain_complete s.rest next.0 next.1 in
        (end.0, end.1, record { between = next.0; first = next.2; rest = end.2 });
  }

-- the same numbers for a relation that holds of the same things
pub Numbers-same : {A : Type 0} (E F : A → A → Type 0) (xs : List A) (R : ℕ → ℕ → Type 0)
    → ((x y : A) → E x y → F x y) → ((x y : A) → F x y → E x y) → Numbers E xs R → Numbers F xs R
Numbers-same E F xs R to from n = record {
  sound = λ i j x at e. let s = n.sound i j x at e in (s.0, s.1, to x s.0 s.2);
  complete = λ i x y at f. n.complete i x y at (from x y f);
}

-- the same for a relation that holds of the same numbers
pub Numbers-alike : {A : Type 0} (E : A → A → Type 0) (xs : List A) (R S : ℕ → ℕ → Type 0)
    → ((i j : ℕ) → i < length xs → R i j → S i j) → ((i j : ℕ) → S i j → R i j) → Numbers E xs R → Numbers E xs S
Numbers-alike E xs R S to from n = record {
  sound = λ i j x at e. n.sound i j x at (from i j e);
  complete = λ i x y at f. let c = n.complete i x y at f in (c.0, c.1, to i c.0 (slice_get_within xs i x at) c.2);
}

-- the rows of a closure number the chains of E
pub Numbers-closure : {A : Type 0} (E : A → A → Type 0) (xs : List A) (g rows : Graph) → length g ≡ length xs
    → IsClosure g rows → Numbers E xs (HasEdge g) → Numbers (Chain E) xs (HasEdge rows)
Numbers-closure E xs g rows long c n =
    Numbers-alike (Chain E) xs (Chain (HasEdge g)) (HasEdge rows) has edge (Numbers-chain E xs (HasEdge g) n)
  where
    edge : (i j : ℕ) → HasEdge rows i j → Chain (HasEdge g) i j
    edge i j e = ((c.each i e.row e.at).exact j).0 e.in_row

    has : (i j : ℕ) → i < length xs → Chain (HasEdge g) i j → HasEdge rows i j
    has i j l p = elim (slice_get_cases rows i).1 [
      | inl found ↦ record { row = found.0; at = found.2; in_row = ((c.each i found.0 found.2).exact j).1 p }
      | inr past ↦ absurd (omega (arith, past.0, l, c.long, long))
    ]

-- between two numbered things the numbers are related where the things are
pub Numbers-between : {A : Type 0} (E : A → A → Type 0) (xs : List A) (R : ℕ → ℕ → Type 0) → Numbers E xs R → AreDistinct xs
    → (i j : ℕ) (x y : A) → slice_get xs i ≡ Some x → slice_get xs j ≡ Some y → R i j ↔ E x y
Numbers-between {A} E xs R n distinct i j x y at_i at_j = (to, from) where
  to : R i j → E x y
  to e =
      let s = n.sound i j x at_i e in
      subst (E x) (same_some (slice_get xs j) s.0 y s.1 at_j) s.2

  from : E x y → R i j
  from f =
      let s = n.complete i x y at_i f in
      subst (R i) (distinct s.0 j y s.1 at_j) s.2

-- an edge leads to a node
pub edge_in_range : (g : Graph) → InRange g (length g) → (a b : ℕ) → HasEdge g a b → b < length g
edge_in_range g within a b e =
    let l = slice_get_within g a e.row e.at in
    let w = within a e.row l in
    let same : get_or g a e.row ≡ e.row = get_or_from_slice_get g a e.row e.row e.at in
    All-contains (λ (x : ℕ). x < length g) (e.row).items b (subst (λ (v : Vec ℕ Global). All (λ (x : ℕ). x < length g) v.items) same w) e.in_row

-- the closure stays in range
pub closure_in_range : (g rows : Graph) → InRange g (length g) → IsClosure g rows → InRange rows (length g)
closure_in_range g rows within c i row l k d m =
    let v = get_or rows i row in
    let p = ((c.each i v (slice_get-get_or rows i row l)).exact (get_or v.items k d)).0 (Contains-get_or v.items k d m) in
    Chain-closed (HasEdge g) (λ (x : ℕ). x < length g) (λ a b _ e. edge_in_range g within a b e) p (omega (arith, l, c.long))

-- equivalences

-- where E holds of numbered things alone, it is numbered in both directions
pub Numbers-forth : {A : Type 0} (E : A → A → Type 0) (xs : List A) (R : ℕ → ℕ → Type 0) → AreDistinct xs → NumbersPairs E xs R → Numbers E xs R
Numbers-forth {A} E xs R distinct n = record { sound = sound; complete = complete } where
  sound : (i j : ℕ) (x : A) → slice_get xs i ≡ Some x → R i j → (y : A) × (slice_get xs j ≡ Some y) × E x y
  sound i j x at r =
      let p = n.sound i j r in
      (p.y, p.y_at, subst (λ z. E z p.y) (same_some (slice_get xs i) p.x x p.x_at at) p.holds)

  complete : (i : ℕ) (x y : A) → slice_get xs i ≡ Some x → E x y → (j : ℕ) × (slice_get xs j ≡ Some y) × R i j
  complete i x y at e =
      let p = n.complete x y e in
      (p.j, p.j_at, subst (λ k. R k p.j) (distinct p.i i x p.i_at at) p.holds)

pub NumbersPairs-turned : {A : Type 0} (E : A → A → Type 0) (xs : List A) (R : ℕ → ℕ → Type 0) → NumbersPairs E xs R → NumbersPairs (Turned E) xs (Turned R)
NumbersPairs-turned E xs R n = record {
  sound = λ i j r. let p = n.sound j i r in record { x = p.y; y = p.x; x_at = p.y_at; y_at = p.x_at; holds = p.holds };
  complete = λ x y e. let p = n.complete y x e in record { i = p.j; j = p.i; i_at = p.j_at; j_at = p.i_at; holds = p.holds };
}

module _ {A : Type 0} (E : A → A → Type 0) (xs : List A) (R : ℕ → ℕ → Type 0) (n : Numbers E xs R) (t : Numbers (Turned E) xs (Turned R)) where
  either_sound : (i j : ℕ) (x : A) → slice_get xs i ≡ Some x → Either R i j → (y : A) × (slice_get xs j ≡ Some y) × Either E x y
  either_sound i j x at (forth r) = let s = n.sound i j x at r in (s.0, s.1, forth s.2)
  either_sound i j x at (back r) = let s = t.sound i j x at r in (s.0, s.1, back s.2)

  either_complete : (i : ℕ) (x y : A) → slice_get xs i ≡ Some x → Either E x y → (j : ℕ) × (slice_get xs j ≡ Some y) × Either R i j
  either_complete i x y at (forth e) = let s = n.complete i x y at e in (s.0, s.1, forth s.2)
  either_complete i x y at (back e) = let s = t.complete i x y at e in (s.0, s.1, back s.2)

  pub Numbers-either : Numbers (Either E) xs (Either R)
  Numbers-either = record { sound = either_sound; complete = either_complete }

-- the classes of numbers number the classes of things
pub Numbers-equivalent : {A : Type 0} (E : A → A → Type 0) (xs : List A) (R : ℕ → ℕ → Type 0) → AreDistinct xs → NumbersPairs E xs R
    → Numbers (Equivalent E) xs (Equivalent R)
Numbers-equivalent E xs R distinct n =
    let both = Numbers-either E xs R (Numbers-forth E xs R distinct n)
    (Numbers-forth (Turned E) xs (Turned R) distinct (NumbersPairs-turned E xs R n)) in
    let chains = Numbers-chain (Either E) xs (Either R) both in
    record {
      sound = λ i j x at q. let s = chains.sound i j x at (Equivalent-chain R q) in (s.0, s.1, chain-Equivalent E s.2);
      complete = λ i x y at q. let s = chains.complete i x y at (Equivalent-chain E q) in (s.0, s.1, chain-Equivalent R s.2);
    }

-- sets

-- the least set of numbers numbers the least set of things
pub NumbersSet-derived : {A : Type 0} (S : A → Type 0) (E : A → A → Type 0) (xs : List A) (N : ℕ → Type 0) (R : ℕ → ℕ → Type 0)
    → NumbersSet S xs N → Numbers E xs R → NumbersSet (Derived S E) xs (Derived N R)
NumbersSet-derived {A} S E xs N R s n = record { sound = sound; complete = complete } where
  sound : (i : ℕ) → Derived N R i → (x : A) × (slice_get xs i ≡ Some x) × Derived S E x
  sound i d =
      let c = chain-Derived N R d in
      let first = s.sound c.0 c.1 in
      let end = chain_sound E xs R n c.2 first.0 first.1 in
      (end.0, end.1, Derived-chain S E (seed first.2) end.2)

  complete : (x : A) → Derived S E x → (i : ℕ) × (slice_get xs i ≡ Some x) × Derived N R i
  complete x d =
      let c = chain-Derived S E d in
      let first = s.complete c.0 c.1 in
      let end = chain_complete E xs R n c.2 first.0 first.1 in
      (end.0, end.1, Derived-chain N R (seed first.2) end.2)

-- a number is in the set where its thing is
pub NumbersSet-at : {A : Type 0} (S : A → Type 0) (xs : List A) (N : ℕ → Type 0) → NumbersSet S xs N → AreDistinct xs
    → (i : ℕ) (x : A) → slice_get xs i ≡ Some x → N i ↔ S x
NumbersSet-at S xs N s distinct i x at = (
  λ h. let f = s.sound i h in subst S (same_some (slice_get xs i) f.0 x f.1 at) f.2,
  λ h. let f = s.complete x h in subst N (distinct f.0 i x f.1 at) f.2,
)
