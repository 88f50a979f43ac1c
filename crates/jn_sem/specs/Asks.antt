-- How a step is said that has to find things: which steps d may be the one, by what there is.
--
-- A step is a relation and no function, since what it asks of a program are relations. Each word below has the steps that
-- follow in the one case and in the other; in both it allows one step alone where these do.
use Rattle.std.specs.Prelude.{◌≡◌, List, [], ◌∷◌, Option, Some, None, Bool, true, false}

-- a is such a thing, and the only one
pub record Only {A : Type 0} (Is : A → Type 0) (a : A) : Type 0 where
  pub is : Is a
  pub one : (b : A) → Is b → b ≡ a

-- the one thing that is so, where there is exactly one
pub data OnOnly {A D : Type 0} (Is : A → Type 0) (Else : D → Type 0) (Go : A → D → Type 0) (d : D) : Type 0 where
  found : (a : A) → Only Is a → Go a d → OnOnly Is Else Go d
  not_found : ((a : A) → Only Is a → ⊥) → Else d → OnOnly Is Else Go d

-- whether it is so
pub data OnTest {D : Type 0} (Is : Type 0) (Else Go : D → Type 0) (d : D) : Type 0 where
  holds : Is → Go d → OnTest Is Else Go d
  fails : (Is → ⊥) → Else d → OnTest Is Else Go d

-- the thing that is there
abbrev pub OnSome : {A D : Type 0} → Option A → (Else : D → Type 0) → (Go : A → D → Type 0) → D → Type 0
OnSome None Else Go d = Else d
OnSome (Some a) Else Go d = Go a d

abbrev pub OnIf : {D : Type 0} → Bool → (Else Go : D → Type 0) → D → Type 0
OnIf true Else Go d = Go d
OnIf false Else Go d = Else d

-- the first of the list, with those behind it
abbrev pub OnFirst : {A D : Type 0} → List A → (Else : D → Type 0) → (Go : A → List A → D → Type 0) → D → Type 0
OnFirst [] Else Go d = Else d
OnFirst (a ∷ rest) Else Go d = Go a rest d

-- that step and no other
abbrev pub It : {D : Type 0} → D → D → Type 0
It x d = d ≡ x

-- Example: `OnOnly (IsBody p V m) missing go` goes on with the least body of m at V, where there is one, and else is missing.
