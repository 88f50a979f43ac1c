-- The laws of chains, classes and least sets, over every graph and list of pairs.
-- That something is least is said against each relation or set that a test decides.
use Rattle.std.specs.Prelude.{◌≡◌, ℕ, List, Bool, Contains, IsTrue}
use Rattle.jn_reach.specs.Chain.{Chain}
use Rattle.jn_reach.specs.Derived.{Derived}
use Rattle.jn_reach.specs.Equivalent.{Equivalent, IsEquivalence}
use Rattle.jn_reach.specs.Graph.{Graph, HasEdge}
use Rattle.jn_reach.specs.Origins.{IsOrigin}
use Rattle.jn_reach.specs.Pairs.{IsPair}

abbrev pub IsReflexive : (ℕ → ℕ → Type 0) → Type 0
IsReflexive R = (a : ℕ) → R a a

abbrev pub IsTransitive : (ℕ → ℕ → Type 0) → Type 0
IsTransitive R = (a b c : ℕ) → R a b → R b c → R a c

-- S holds wherever R does
abbrev pub IsWithin : (ℕ → ℕ → Type 0) → (ℕ → ℕ → Type 0) → Type 0
IsWithin R S = (a b : ℕ) → R a b → S a b

-- the relation of a test
abbrev pub Passes : (ℕ → ℕ → Bool) → ℕ → ℕ → Type 0
Passes test a b = IsTrue (test a b)

-- chains of edges are the least reflexive and transitive relation that holds each edge
pub record ChainLaws (g : Graph) : Type 0 where
  pub holds : IsWithin (HasEdge g) (Chain (HasEdge g))
  pub reflexive : IsReflexive (Chain (HasEdge g))
  pub transitive : IsTransitive (Chain (HasEdge g))
  pub least : (test : ℕ → ℕ → Bool) → IsReflexive (Passes test) → IsTransitive (Passes test)
      → IsWithin (HasEdge g) (Passes test) → IsWithin (Chain (HasEdge g)) (Passes test)

abbrev pub ChainsAreLeast : Type 0
ChainsAreLeast = (g : Graph) → ChainLaws g

-- "in one class" is the least equivalence that holds each pair
pub record ClassLaws (pairs : List (ℕ × ℕ)) : Type 0 where
  pub holds : IsWithin (IsPair pairs) (Equivalent (IsPair pairs))
  pub equivalence : IsEquivalence (Equivalent (IsPair pairs))
  pub least : (test : ℕ → ℕ → Bool) → IsEquivalence (Passes test) → IsWithin (IsPair pairs) (Passes test)
      → IsWithin (Equivalent (IsPair pairs)) (Passes test)

abbrev pub ClassesAreLeast : Type 0
ClassesAreLeast = (pairs : List (ℕ × ℕ)) → ClassLaws pairs

-- the set holds with the first of a pair its second
abbrev pub IsClosed : (ℕ → Type 0) → List (ℕ × ℕ) → Type 0
IsClosed S rules = (a b : ℕ) → S a → IsPair rules a b → S b

-- what follows from the seeds is the least set that holds these and is closed under the rules
pub record SetLaws (seeds : List ℕ) (rules : List (ℕ × ℕ)) : Type 0 where
  pub holds : (a : ℕ) → Contains seeds a → Derived (Contains seeds) (IsPair rules) a
  pub closed : IsClosed (Derived (Contains seeds) (IsPair rules)) rules
  pub least : (test : ℕ → Bool) → ((a : ℕ) → Contains seeds a → IsTrue (test a)) → IsClosed (λ a. IsTrue (test a)) rules
      → (a : ℕ) → Derived (Contains seeds) (IsPair rules) a → IsTrue (test a)

abbrev pub SetsAreLeast : Type 0
SetsAreLeast = (seeds : List ℕ) (rules : List (ℕ × ℕ)) → SetLaws seeds rules

-- no node has two origins
abbrev pub OriginsAreOne : Type 0
OriginsAreOne = (g : Graph) (starts : List ℕ) (b s t : ℕ) → IsOrigin g starts b s → IsOrigin g starts b t → s ≡ t
