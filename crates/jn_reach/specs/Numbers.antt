-- A relation on things, against a relation on their numbers: the places of the things in a list.
use Rattle.std.specs.Prelude.{◌≡◌, ℕ, List, slice_get, Some}

-- R is E on the numbers of the things, and E leads from these to none but these
pub record Numbers {A : Type 0} (E : A → A → Type 0) (xs : List A) (R : ℕ → ℕ → Type 0) : Type 0 where
  pub sound : (i j : ℕ) (x : A) → slice_get xs i ≡ Some x → R i j → (y : A) × (slice_get xs j ≡ Some y) × E x y
  pub complete : (i : ℕ) (x y : A) → slice_get xs i ≡ Some x → E x y → (j : ℕ) × (slice_get xs j ≡ Some y) × R i j

-- E holds of the things at i and j
pub record PairAt {A : Type 0} (E : A → A → Type 0) (xs : List A) (i j : ℕ) : Type 0 where
  pub x : A
  pub y : A
  pub x_at : slice_get xs i ≡ Some x
  pub y_at : slice_get xs j ≡ Some y
  pub holds : E x y

-- R holds of numbers of x and y
pub record PairOf {A : Type 0} (xs : List A) (R : ℕ → ℕ → Type 0) (x y : A) : Type 0 where
  pub i : ℕ
  pub j : ℕ
  pub i_at : slice_get xs i ≡ Some x
  pub j_at : slice_get xs j ≡ Some y
  pub holds : R i j

-- R is E on the numbers of the things, and E holds of none but these
pub record NumbersPairs {A : Type 0} (E : A → A → Type 0) (xs : List A) (R : ℕ → ℕ → Type 0) : Type 0 where
  pub sound : (i j : ℕ) → R i j → PairAt E xs i j
  pub complete : (x y : A) → E x y → PairOf xs R x y

-- N is S on the numbers of the things, and S holds of none but these
pub record NumbersSet {A : Type 0} (S : A → Type 0) (xs : List A) (N : ℕ → Type 0) : Type 0 where
  pub sound : (i : ℕ) → N i → (x : A) × (slice_get xs i ≡ Some x) × S x
  pub complete : (x : A) → S x → (i : ℕ) × (slice_get xs i ≡ Some x) × N i

-- no thing has two numbers
abbrev pub AreDistinct : {A : Type 0} → List A → Type 0
AreDistinct {A} xs = (i j : ℕ) (x : A) → slice_get xs i ≡ Some x → slice_get xs j ≡ Some x → i ≡ j
