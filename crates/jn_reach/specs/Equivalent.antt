-- The least equivalence that holds a relation.

-- a and b are in one class
pub data Equivalent {A : Type 0} (E : A → A → Type 0) : A → A → Type 0 where
  pair : {a b : A} → E a b → Equivalent E a b
  itself : {a : A} → Equivalent E a a
  turned : {a b : A} → Equivalent E a b → Equivalent E b a
  joined : {a b c : A} → Equivalent E a b → Equivalent E b c → Equivalent E a c

-- E the other way round
abbrev pub Turned : {A : Type 0} → (A → A → Type 0) → A → A → Type 0
Turned E a b = E b a

-- E in one direction or the other
pub data Either {A : Type 0} (E : A → A → Type 0) : A → A → Type 0 where
  forth : {a b : A} → E a b → Either E a b
  back : {a b : A} → E b a → Either E a b

-- R is reflexive, symmetric and transitive
pub record IsEquivalence {A : Type 0} (R : A → A → Type 0) : Type 0 where
  pub itself : (a : A) → R a a
  pub turned : (a b : A) → R a b → R b a
  pub joined : (a b c : A) → R a b → R b c → R a c
