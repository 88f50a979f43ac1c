-- What an instruction has to find.
use Rattle.std.specs.Prelude.{◌≡◌, ℕ, ◌+◌, ◌<◌, ◌≤◌, List, [], ◌∷◌, length, ℤ, Some, slice_get}
use Rattle.jn_code.specs.declared.image.Image.{Image}
use Rattle.jn_code.specs.declared.image.ClassRow.{ClassRow}
use Rattle.jn_code.specs.Rows.{numbered}
use Rattle.jn_code.specs.Machine.{Ref, ref_in, class_in, slot_in}
use Rattle.jn_machine.specs.Held.{Held}

abbrev pub HasRoom : Held → Type 0
HasRoom h = length h.words < h.limit

-- so many are there, and none is past the limit
abbrev pub Has : ℕ → Held → Type 0
Has n h = (n ≤ length h.words) × (length h.words ≤ h.limit)

-- the latest operand is such
abbrev pub OnTop : (ℤ → Type 0) → List ℤ → Type 0
OnTop P [] = ⊥
OnTop P (z ∷ words) = P z

-- the one before it is such
abbrev pub Below : (ℤ → Type 0) → List ℤ → Type 0
Below P [] = ⊥
Below P (y ∷ words) = OnTop P words

-- a class that is there
abbrev pub IsClass : Image → ℤ → Type 0
IsClass i z = class_in z < length i.classes

-- a class that is there, and so is its group, where it has one
pub record HasGroup (i : Image) (z : ℤ) : Type 0 where
  pub class : IsClass i z
  pub group : (row : ClassRow) (n : ℕ) → slice_get i.classes (class_in z) ≡ Some row → numbered row.group ≡ Some n → n < length i.groups

-- Null, or a reference whose class is there, and so is the cell that the class names for the selector.
pub record Reaches (i : Image) (h : List ℤ) (s : ℕ) (z : ℤ) : Type 0 where
  pub class : (r : Ref) → ref_in z ≡ Some r → r.view < length i.classes
  pub cell : (r : Ref) (row : ClassRow) (slot : ℕ) → ref_in z ≡ Some r → slice_get i.classes r.view ≡ Some row → slot_in row s ≡ Some slot → r.cell + 1 + slot < length h
