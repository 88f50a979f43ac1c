-- Words that carry their kinds.
use Rattle.std.specs.Prelude.{ℕ, List, map, ℤ, pos, Bool, false}
use Rattle.jn_code.specs.declared.kind.OperandKind.{OperandKind}
use Rattle.jn_code.specs.declared.kind.OperandKind.TheVariants as kind
use Rattle.jn_code.specs.Machine.{word_of, ref_word}

-- A number, a truth value, null, a reference to the object whose first cell is that, viewed at that class, or a class.
pub data Value : Type 0 where
  Number : ℤ → Value
  Truth : Bool → Value
  NoObject : Value
  Object : (view cell : ℕ) → Value
  Class : ℕ → Value

-- the word that the machine has in its place
abbrev pub word : Value → ℤ
word (Number z) = z
word (Truth b) = word_of b
word NoObject = pos 0
word (Object view cell) = ref_word view cell
word (Class k) = pos k

abbrev pub kind_of_value : Value → OperandKind
kind_of_value (Number z) = kind.Int
kind_of_value (Truth b) = kind.Bool
kind_of_value NoObject = kind.Reference
kind_of_value (Object view cell) = kind.Reference
kind_of_value (Class k) = kind.Class

-- what a local or a slot of this kind begins with
abbrev pub zero_of : OperandKind → Value
zero_of kind.Int = Number (pos 0)
zero_of kind.Bool = Truth false
zero_of kind.Reference = NoObject
zero_of kind.Class = Class 0

-- A cell is the first of an object of a group, or a slot that holds a value.
pub data Held : Type 0 where
  Head : (group : ℕ) → Held
  Holds : Value → Held

abbrev pub held_word : Held → ℤ
held_word (Head group) = pos group
held_word (Holds v) = word v

abbrev pub words : List Value → List ℤ
words vs = map word vs
