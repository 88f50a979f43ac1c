-- Which bytes spell an image, and the first thing that is wrong with bytes that spell none.
use Rattle.std.specs.Prelude.{◌≡◌, ℕ, ◌-◌, ◌<◌, ◌≤◌, ◌==◌, nat_lt, List, length, All, Result, Ok, Err, FitsSigned, if◌then◌else◌}
use Rattle.std.specs.Int.{w64}
use Rattle.jn_code.specs.declared.image.Image.{Image}
use Rattle.jn_code.specs.declared.image.ClassRow.{ClassRow}
use Rattle.jn_code.specs.declared.image.MemberEntry.{MemberEntry}
use Rattle.jn_code.specs.declared.image.MethodEntry.{MethodEntry}
use Rattle.jn_code.specs.declared.image.FieldEntry.{FieldEntry}
use Rattle.jn_code.specs.declared.image.OtherEntry.{OtherEntry}
use Rattle.jn_code.specs.declared.image.Code.{Code}
use Rattle.jn_code.specs.declared.instr.Instr.{Instr}
use Rattle.jn_code.specs.declared.instr.Instr.TheVariants as op
use Rattle.jn_code.specs.declared.fault.ImageFault.{ImageFault}
use Rattle.jn_code.specs.declared.fault.ImageFault.TheVariants as fault
use Rattle.jn_code.specs.Form.{InForm}
use Rattle.jn_code.specs.SpellsFields.{Stop, Short, Magic, Bad, Reading}
use Rattle.jn_code.specs.SpellsFile.{file}

-- ---- each number is one of its type: a variable of a clause ranges over all numbers

abbrev pub OperandFits : Instr → Type 0
OperandFits (op.Int z) = FitsSigned w64 z
OperandFits (op.Cls n) = n < 65536
OperandFits (op.Load n) = n < 256
OperandFits (op.Store n) = n < 256
OperandFits (op.Jump n) = n < 4294967296
OperandFits (op.Jfalse n) = n < 4294967296
OperandFits (op.Jtrue n) = n < 4294967296
OperandFits (op.Up n) = n < 256
OperandFits (op.Down n) = n < 65536
OperandFits (op.Ctor n) = n < 4294967296
OperandFits (op.Call n) = n < 4294967296
OperandFits (op.Callat n) = n < 4294967296
OperandFits (op.Get n) = n < 4294967296
OperandFits (op.Put n) = n < 4294967296
OperandFits (op.Printt n) = n < 4294967296
OperandFits _ = Unit {0}

abbrev pub MemberFits : MemberEntry → Type 0
MemberFits e = (e.name < 65536) × (e.class < 65536)

abbrev pub MethodFits : MethodEntry → Type 0
MethodFits e = (e.selector < 4294967296) × (e.code < 4294967296)

abbrev pub FieldFits : FieldEntry → Type 0
FieldFits e = (e.selector < 4294967296) × (e.slot < 256)

abbrev pub OtherFits : OtherEntry → Type 0
OtherFits e = (e.family < 65536) × (e.class < 65536)

pub record RowFits (r : ClassRow) : Type 0 where
  pub up : r.up < 65536
  pub family : r.family < 65536
  pub group : r.group < 65536
  pub members : All MemberFits r.members
  pub methods : All MethodFits r.methods
  pub fields : All FieldFits r.fields
  pub others : All OtherFits r.others

abbrev pub CodeFits : Code → Type 0
CodeFits c = All OperandFits c.instrs

pub record Fits (i : Image) : Type 0 where
  pub classes : All RowFits i.classes
  pub codes : All CodeFits i.codes
  pub start : i.start < 4294967296

-- ---- the file

-- The bytes of an image.
abbrev pub file_of : Image → List ℕ
file_of i = file.spelled i

-- how many bytes a file has at most
abbrev pub limit : ℕ
limit = 134217728

-- The bytes spell the image: it is in form, they are its file, and they are not too many.
pub record Spells (i : Image) (bytes : List ℕ) : Type 0 where
  pub fits : Fits i
  pub form : InForm i
  pub same : bytes ≡ file_of i
  pub within : length bytes ≤ limit

-- ---- what is wrong

-- A fault names the byte where the field starts, counted from the front.
abbrev pub fault_of : ℕ → Stop → ImageFault
fault_of size (Short left) = fault.Short (size - left)
fault_of size Magic = fault.BadMagic
fault_of size (Bad left kind) = fault.BadField (size - left) kind

-- Nothing follows.
abbrev pub ended : ℕ → Reading Image → Result Image ImageFault
ended size (Err stop) = Err (fault_of size stop)
ended size (Ok x) = if length x.1 == 0 then Ok x.0 else Err (fault.Trailing (size - length x.1))

-- The image that the bytes spell, or the first fault: that there are too many, and then the fields in their order.
unfoldable pub image_of : List ℕ → Result Image ImageFault
image_of bytes = if nat_lt limit (length bytes) then Err fault.TooLong else ended (length bytes) (file.read bytes)
