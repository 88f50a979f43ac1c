-- The least set by rules of one premise.

-- The least set that holds each seed, and with the premise of a rule its conclusion.
pub data Derived {A : Type 0} (Seed : A → Type 0) (Rule : A → A → Type 0) : A → Type 0 where
  seed : {a : A} → Seed a → Derived Seed Rule a
  rule : {a b : A} → Derived Seed Rule a → Rule a b → Derived Seed Rule b
