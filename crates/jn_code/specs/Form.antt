-- Which images are in form: their counts, kinds, orders and truth values are such as a file can have.
use Rattle.std.specs.Prelude.{ℕ, ◌+◌, ◌<◌, ◌≤◌, List, [], ◌∷◌, length, map, All}
use Rattle.jn_code.specs.declared.image.Text.{Text}
use Rattle.jn_code.specs.declared.image.Image.{Image}
use Rattle.jn_code.specs.declared.image.Shape.{Shape}
use Rattle.jn_code.specs.declared.image.Group.{Group}
use Rattle.jn_code.specs.declared.image.ClassRow.{ClassRow}
use Rattle.jn_code.specs.declared.image.MemberEntry.{MemberEntry}
use Rattle.jn_code.specs.declared.image.MethodEntry.{MethodEntry}
use Rattle.jn_code.specs.declared.image.FieldEntry.{FieldEntry}
use Rattle.jn_code.specs.declared.image.OtherEntry.{OtherEntry}
use Rattle.jn_code.specs.declared.image.Code.{Code}
use Rattle.jn_code.specs.declared.instr.Instr.{Instr}
use Rattle.jn_code.specs.declared.instr.Instr.TheVariants as op

-- A kind of an operand, a local or a slot: 1 a number, 2 a truth value, 3 a reference.
abbrev pub IsKind : ℕ → Type 0
IsKind k = (1 ≤ k) × (k ≤ 3)

-- A result has a kind, or there is none: 0.
abbrev pub IsResultKind : ℕ → Type 0
IsResultKind k = k ≤ 3

-- A field selector has a kind, or 4, a reference that is read in the family of its object's view.
abbrev pub IsFieldKind : ℕ → Type 0
IsFieldKind k = (1 ≤ k) × (k ≤ 4)

abbrev pub IsBelowFirst : ℕ → List ℕ → Type 0
IsBelowFirst x [] = Unit {0}
IsBelowFirst x (y ∷ ys) = x < y

-- Each number is above the one before it.
abbrev pub Ascends : List ℕ → Type 0
Ascends [] = Unit {0}
Ascends (x ∷ xs) = IsBelowFirst x xs × Ascends xs

-- At most 15 parameters beside the receiver.
pub record ShapeInForm (s : Shape) : Type 0 where
  pub count : length s.params ≤ 15
  pub params : All IsKind s.params
  pub result : IsResultKind s.result

-- At most 250 slots.
pub record GroupInForm (g : Group) : Type 0 where
  pub count : length g.slots ≤ 250
  pub slots : All IsKind g.slots

-- Counts fit their two or four bytes. Members ascend by name, methods and fields by selector, others by family.
pub record RowInForm (r : ClassRow) : Type 0 where
  pub members_count : length r.members < 65536
  pub methods_count : length r.methods < 4294967296
  pub fields_count : length r.fields < 65536
  pub others_count : length r.others < 65536
  pub members : Ascends (map (λ (e : MemberEntry). e.name) r.members)
  pub methods : Ascends (map (λ (e : MethodEntry). e.selector) r.methods)
  pub fields : Ascends (map (λ (e : FieldEntry). e.selector) r.fields)
  pub others : Ascends (map (λ (e : OtherEntry). e.family) r.others)

-- A truth value is 0 or 1.
abbrev pub InstrInForm : Instr → Type 0
InstrInForm (op.Bool b) = b ≤ 1
InstrInForm _ = Unit {0}

-- At most 16 parameters, 255 locals with them, and 4,096 operands.
pub record CodeInForm (c : Code) : Type 0 where
  pub params_count : length c.params ≤ 16
  pub params : All IsKind c.params
  pub result : IsResultKind c.result
  pub locals_count : length c.params + length c.locals ≤ 255
  pub locals : All IsKind c.locals
  pub stack : c.stack ≤ 4096
  pub count : length c.instrs < 4294967296
  pub instrs : All InstrInForm c.instrs

-- The texts, the method selectors, the field selectors and the codes are each fewer than 2^32, the groups than 2^16. There
-- are at most 4,096 classes.
pub record InForm (i : Image) : Type 0 where
  pub texts_count : length i.texts < 4294967296
  pub texts : All (λ (t : Text). length t.bytes < 4294967296) i.texts
  pub methods_count : length i.methods < 4294967296
  pub methods : All ShapeInForm i.methods
  pub fields_count : length i.fields < 4294967296
  pub fields : All IsFieldKind i.fields
  pub groups_count : length i.groups < 65536
  pub groups : All GroupInForm i.groups
  pub classes_count : length i.classes ≤ 4096
  pub classes : All RowInForm i.classes
  pub codes_count : length i.codes < 4294967296
  pub codes : All CodeInForm i.codes
