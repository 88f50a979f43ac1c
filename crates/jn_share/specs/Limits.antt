-- The limits of entries and slots, and what is refused where one is passed: the same as in the rules' verdict (a law above both says so).
use Rattle.std.specs.Prelude.{◌≡◌, ◌<◌, ℕ, List, Contains, Some, None, slice_get, length}
use Rattle.jn_base.specs.declared.tree.Name.{Name}
use Rattle.jn_base.specs.declared.tree.Place.{Place}
use Rattle.jn_base.specs.declared.tree.Program.{Program}
use Rattle.jn_base.specs.declared.refusal.Limit.{Limit}
use Rattle.jn_base.specs.declared.refusal.Limit.TheVariants as limit
use Rattle.jn_base.specs.declared.refusal.Refusal.{Refusal}
use Rattle.jn_base.specs.declared.refusal.Rule.TheVariants as rule
use Rattle.jn_base.specs.Limits.{greatest}
use Rattle.jn_base.specs.Paths.{Path}
use Rattle.jn_base.specs.Supers.{Member}
use Rattle.jn_base.specs.Universe.{InUniverse}
use Rattle.jn_base.specs.Members.{IsHome}
use Rattle.jn_base.specs.ClassOrder.{IsFirst}
use Rattle.jn_base.specs.TableRules.{NoneIs}
use Rattle.jn_table.specs.Rows.{HasMethod}
use Rattle.jn_sem.specs.Values.{HasField}
use Rattle.jn_sem.specs.Sharing.{IsClass, Related}
use Rattle.jn_sem.specs.Slots.{SlotOfGroup}

-- The entries of a program: for each path of its universe each member, each name of a method, each name of a field, and each
-- counterpart in another family.
pub data Entry : Type 0 where
  of_member : Path → Name → Entry
  of_method : Path → Name → Entry
  of_field : Path → Name → Entry
  of_counterpart : Path → Path → Entry

pub data IsEntry (p : Program) : Entry → Type 0 where
  member : (R : Path) (C : Name) → InUniverse p R → Member p R C → IsEntry p (of_member R C)
  method : (R : Path) (m : Name) → InUniverse p R → HasMethod p R m → IsEntry p (of_method R m)
  field : (R : Path) (f : Name) → InUniverse p R → HasField p R f → IsEntry p (of_field R f)
  counterpart : (R S : Path) → Related p R S → (R ≡ S → ⊥) → IsEntry p (of_counterpart R S)

-- the path to which an entry belongs
abbrev pub path_of : Entry → Path
path_of (of_member R C) = R
path_of (of_method R m) = R
path_of (of_field R f) = R
path_of (of_counterpart R S) = R

-- more than n different things are so
pub record MoreThan {A : Type 0} (n : ℕ) (Is : A → Type 0) : Type 0 where
  pub list : List A
  pub each : (a : A) → Contains list a → Is a
  pub once : (i j : ℕ) (a : A) → slice_get list i ≡ Some a → slice_get list j ≡ Some a → i ≡ j
  pub more : n < length list

abbrev pub TooManyEntries : Program → Type 0
TooManyEntries p = MoreThan (greatest limit.Entries) (IsEntry p)

-- a class whose group has too many slots
pub record TooManySlots (p : Program) (V : Path) : Type 0 where
  pub class : IsClass p V
  pub more : MoreThan (greatest limit.Slots) (SlotOfGroup p V)

abbrev pub over_limit : Limit → Place → Refusal
over_limit l at = record { rule = rule.E04; at = at; class = None; member = None; limit = Some l }

abbrev pub start_of_file : Place
start_of_file = record { line = 1; column = 1 }

-- What is refused: too many entries, at the start of the file; then too many slots, at the home of the first class whose group
-- has them, which is the first of its group.
pub data LimitRefused (p : Program) (r : Refusal) : Type 0 where
  entries : TooManyEntries p → r ≡ over_limit limit.Entries start_of_file → LimitRefused p r
  slots : (R : Path) (at : Place) → (TooManyEntries p → ⊥) → IsFirst p (TooManySlots p) R → IsHome p R at
      → r ≡ over_limit limit.Slots at → LimitRefused p r

-- neither limit is passed
pub record LimitsPass (p : Program) : Type 0 where
  pub entries : TooManyEntries p → ⊥
  pub slots : NoneIs (TooManySlots p)
