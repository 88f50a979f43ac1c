-- Chains of steps of a relation: the least relation that holds each step, is reflexive and transitive.

-- b is a, or the end of a chain of steps of E from a
pub data Chain {A : Type 0} (E : A → A → Type 0) : A → A → Type 0 where
  here : {a : A} → Chain E a a
  step : {a b c : A} → E a b → Chain E b c → Chain E a c

-- c is the end of a chain of one step or more from a
pub record Steps {A : Type 0} (E : A → A → Type 0) (a c : A) : Type 0 where
  pub between : A
  pub first : E a between
  pub rest : Chain E between c
