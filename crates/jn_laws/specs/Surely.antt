-- What can't fail to be, and lists of all things that are so.
use Rattle.std.specs.Prelude.{◌≡◌, ◌↔◌, ℕ, List, Contains, slice_get, Some}

-- A surely is: it can't be that it is not. What is asked of a program are relations, and no computation that would find
-- the thing; and where what follows is itself that something can't be, this says as much as "is".
abbrev pub Surely : Type 0 → Type 0
Surely A = (A → ⊥) → ⊥

-- a list of all things that are so, each once
pub record ListOf {A : Type 0} (Is : A → Type 0) : Type 0 where
  pub items : List A
  pub exact : (a : A) → Contains items a ↔ Is a
  pub once : (i j : ℕ) (a : A) → slice_get items i ≡ Some a → slice_get items j ≡ Some a → i ≡ j
