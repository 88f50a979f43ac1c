-- What a valid image promises the machine: at each instruction the kinds of the operands are known and right.
use Rattle.std.specs.Prelude.{◌≡◌, ℕ, ◌+◌, ◌≤◌, List, [], length, true, Some, None, slice_get}
use Rattle.jn_code.specs.declared.kind.OperandKind.{OperandKind}
use Rattle.jn_code.specs.declared.instr.Instr.{Instr}
use Rattle.jn_code.specs.declared.image.Image.{Image}
use Rattle.jn_code.specs.declared.image.ClassRow.{ClassRow}
use Rattle.jn_code.specs.declared.image.Code.{Code}
use Rattle.jn_code.specs.Kinds.{takes, after_it, target_of, goes_on}
use Rattle.jn_code.specs.Rows.{row_fault}
use Rattle.jn_code.specs.Valid.{Notes, Pass, Known, Found, pass, all_suit, number_is_there, local_is_there, is_place, returns_well, starts_well}

-- the kinds before instruction t are known to be ks
pub record KnownAt (s : Notes) (t : ℕ) (ks : List OperandKind) : Type 0 where
  pub is : slice_get s t ≡ Some (Some ks)

-- An instruction is right with the kinds before it: its numbers are there, the operands are, and are of the right kinds.
pub record SuitsKinds (i : Image) (c : Code) (x : Instr) (ks : List OperandKind) : Type 0 where
  pub number : number_is_there i x ≡ true
  pub local : local_is_there c x ≡ true
  pub place : is_place c (target_of x) ≡ true
  pub many : length (takes i c x) ≤ length ks
  pub low : length (after_it i c x ks) ≤ c.stack
  pub suits : all_suit (takes i c x) ks ≡ true
  pub returns : returns_well c x ≡ true

-- The kinds before instruction n are known and right, and those after it are known where it leads.
pub record IsRight (i : Image) (c : Code) (s : Notes) (n : ℕ) (x : Instr) : Type 0 where
  pub ks : List OperandKind
  pub known : KnownAt s n ks
  pub own : SuitsKinds i c x ks
  pub target : (t : ℕ) → target_of x ≡ Some t → KnownAt s t (after_it i c x ks)
  pub next : goes_on x ≡ true → KnownAt s (n + 1) (after_it i c x ks)

-- So it is at each instruction of a code. Before the first one there are no operands, and there are never more than `stack`.
pub record KindsKnown (i : Image) (c : Code) (s : Notes) : Type 0 where
  pub long : length s ≡ length c.instrs
  pub low : (n : ℕ) (ks : List OperandKind) → KnownAt s n ks → length ks ≤ c.stack
  pub first : KnownAt s 0 []
  pub right : (n : ℕ) (x : Instr) → slice_get c.instrs n ≡ Some x → IsRight i c s n x

-- the kinds that the pass over a code has found
abbrev pub notes_in : Pass → Notes
notes_in (Known s) = s
notes_in (Found n w) = []

abbrev pub notes_of : Image → Code → Notes
notes_of i c = notes_in (pass i c)

-- In each code the kinds are known and right, no class has a fault, and the start code takes and gives nothing.
pub record IsSound (i : Image) : Type 0 where
  pub rows : (k : ℕ) (r : ClassRow) → slice_get i.classes k ≡ Some r → row_fault i k r ≡ None
  pub codes : (k : ℕ) (c : Code) → slice_get i.codes k ≡ Some c → KindsKnown i c (notes_of i c)
  pub start : starts_well (slice_get i.codes i.start) ≡ true
