-- What the rows of `Members` say of numbers. `ids` are the classes whose declarations have a method or a field, `sups` the
-- supers of a class; or the other way round, where those are fewer.
use Rattle.std.specs.Prelude.{◌≡◌, ◌<◌, ◌⊎◌, ℕ, List, Contains, slice_get, length, Option, Some, None}
use Rattle.jn_table.specs.declared.class.ClassId.{ClassId}
use Rattle.jn_names.specs.declared.member_row.MemberRow.{MemberRow}
use Rattle.jn_names.specs.declared.members.Least.{Least}
use Rattle.jn_names.specs.declared.members.Least.TheVariants as least

-- the row of a has the super b
abbrev pub SupAtRow : List MemberRow → ClassId → ClassId → Type 0
SupAtRow rows a b = (row : MemberRow) × (slice_get rows a.0 ≡ Some row) × Contains row.sups.items b

-- t is another of the numbers, is a super, and stands below s
pub record LowerRow (rows : List MemberRow) (ids sups : List ClassId) (s t : ClassId) : Type 0 where
  pub among : Contains ids t
  pub super : Contains sups t
  pub other : t ≡ s → ⊥
  pub below : SupAtRow rows t s

-- some one stands below s
abbrev pub HasLowerRow : List MemberRow → List ClassId → List ClassId → ClassId → Type 0
HasLowerRow rows ids sups s = (t : ClassId) × LowerRow rows ids sups s t

-- if s is a super, it is `but`, or another stands below
abbrev pub PassedRow : List MemberRow → List ClassId → List ClassId → Option ClassId → ClassId → Type 0
PassedRow rows ids sups but s = Contains sups s → (but ≡ Some s) ⊎ HasLowerRow rows ids sups s

-- the first n of the numbers are passed
abbrev pub PassedTo : List MemberRow → List ClassId → List ClassId → Option ClassId → ℕ → Type 0
PassedTo rows ids sups but n = (k : ℕ) (s : ClassId) → k < n → slice_get ids k ≡ Some s → PassedRow rows ids sups but s

-- s is a super, is not `but`, and has none below
pub record IsLowRow (rows : List MemberRow) (ids sups : List ClassId) (but : Option ClassId) (s : ClassId) : Type 0 where
  pub super : Contains sups s
  pub other : but ≡ Some s → ⊥
  pub low : HasLowerRow rows ids sups s → ⊥

-- the first of the numbers that is such a one
pub record FirstLowRow (rows : List MemberRow) (ids sups : List ClassId) (but : Option ClassId) (a : ClassId) : Type 0 where
  pub place : ℕ
  pub at : slice_get ids place ≡ Some a
  pub is : IsLowRow rows ids sups but a
  pub before : PassedTo rows ids sups but place

-- one of the numbers, which is a super
abbrev pub IsOneRow : List ClassId → List ClassId → ClassId → Type 0
IsOneRow ids sups a = Contains ids a × Contains sups a

-- if s is a super, it is a, or a stands below it
abbrev pub AboveRow : List MemberRow → List ClassId → ClassId → ClassId → Type 0
AboveRow rows sups a s = Contains sups s → (s ≡ a) ⊎ SupAtRow rows a s

-- so the first n of the numbers
abbrev pub AboveTo : List MemberRow → List ClassId → List ClassId → ClassId → ℕ → Type 0
AboveTo rows ids sups a n = (k : ℕ) (s : ClassId) → k < n → slice_get ids k ≡ Some s → AboveRow rows sups a s

-- if s is a super, it is `but`
abbrev pub FieldlessRow : List ClassId → Option ClassId → ClassId → Type 0
FieldlessRow sups but s = Contains sups s → but ≡ Some s

-- so the first n of the numbers
abbrev pub FieldlessTo : List ClassId → List ClassId → Option ClassId → ℕ → Type 0
FieldlessTo ids sups but n = (k : ℕ) (s : ClassId) → k < n → slice_get ids k ≡ Some s → FieldlessRow sups but s

-- s is a super and is not `but`
pub record IsFieldRow (sups : List ClassId) (but : Option ClassId) (s : ClassId) : Type 0 where
  pub super : Contains sups s
  pub other : but ≡ Some s → ⊥

-- the first of the numbers that is such a one
pub record FirstFieldRow (ids sups : List ClassId) (but : Option ClassId) (a : ClassId) : Type 0 where
  pub place : ℕ
  pub at : slice_get ids place ≡ Some a
  pub is : IsFieldRow sups but a
  pub before : FieldlessTo ids sups but place

-- no one, one with all others passed, or two
abbrev pub LeastRow : List MemberRow → List ClassId → List ClassId → Least → Type 0
LeastRow rows ids sups least.None = PassedTo rows ids sups None (length ids)
LeastRow rows ids sups (least.One a) = FirstLowRow rows ids sups None a × PassedTo rows ids sups (Some a) (length ids)
LeastRow rows ids sups (least.Many a b) = FirstLowRow rows ids sups None a × FirstLowRow rows ids sups (Some a) b

abbrev pub FieldRow : List ClassId → List ClassId → Least → Type 0
FieldRow ids sups least.None = FieldlessTo ids sups None (length ids)
FieldRow ids sups (least.One a) = FirstFieldRow ids sups None a × FieldlessTo ids sups (Some a) (length ids)
FieldRow ids sups (least.Many a b) = FirstFieldRow ids sups None a × FirstFieldRow ids sups (Some a) b
