-- Small images with which the definitions are tried.
use Rattle.std.specs.Prelude.{◌≡◌, ℕ, List, [], ◌∷◌, Option, Some, None, pos}
use Rattle.jn_code.specs.declared.instr.Instr.{Instr}
use Rattle.jn_code.specs.declared.instr.Instr.TheVariants as op
use Rattle.jn_code.specs.declared.image.Image.{Image}
use Rattle.jn_code.specs.declared.image.ClassRow.{ClassRow}
use Rattle.jn_code.specs.declared.image.Code.{Code}
use Rattle.jn_code.specs.declared.fault.ImageFault.{ImageFault}
use Rattle.jn_code.specs.Machine.{Halt, mach}
use Rattle.jn_code.specs.Valid.{first_fault}

-- a code with no parameters, no locals and no result
abbrev pub plain_code : ℕ → List Instr → Code
plain_code stack xs = record { params = []; result = 0; locals = []; stack = stack; instrs = xs }

abbrev pub plain_image : ℕ → List Instr → Image
plain_image stack xs =
    record { texts = []; methods = []; fields = []; groups = []; classes = []; codes = plain_code stack xs ∷ []; start = 0 }

-- it prints 7
abbrev pub seven : List Instr
seven = op.Int (pos 7) ∷ (op.Printi ∷ (op.Ret ∷ []))

-- it prints a number as a truth value
abbrev pub wrong_kind : List Instr
wrong_kind = op.Int (pos 7) ∷ (op.Printb ∷ (op.Ret ∷ []))

-- it drops an operand that it has not
abbrev pub no_operand : List Instr
no_operand = op.Int (pos 7) ∷ (op.Printi ∷ (op.Pop ∷ []))

-- Two packages, 0 and 2, each with one class of name 0: 1 and 3, which share their objects. Class 4 is a package of its own.
-- An object has a number, field 0, and a reference that is read in the family of its object's view, field 1. Method 0 adds
-- its argument to the number in class 1, and gives its argument in class 3. No class has method 1.
abbrev pub row : (up family group : ℕ) → ClassRow
row up family group = record { up = up; family = family; group = group; members = []; methods = []; fields = []; others = [] }

abbrev pub package_row : (number class : ℕ) → ClassRow
package_row number class = record (row 65535 number 65535) { members = record { name = 0; class = class } ∷ [] }

abbrev pub class_row : (family code other class : ℕ) → ClassRow
class_row family code other class =
    record {
      up = family;
      family = family;
      group = 0;
      members = [];
      methods = record { selector = 0; code = code } ∷ [];
      fields = record { selector = 0; slot = 0 } ∷ (record { selector = 1; slot = 1 } ∷ []);
      others = record { family = other; class = class } ∷ [];
    }

abbrev pub rows : List ClassRow
rows =
    package_row 0 1 ∷ (class_row 0 1 2 3 ∷ (package_row 2 3 ∷ (class_row 2 2 0 1 ∷ (row 65535 4 65535 ∷ []))))

abbrev pub adder : Code
adder =
    record { params = 3 ∷ (1 ∷ []); result = 1; locals = []; stack = 2; instrs = op.Load 1 ∷ (op.Load 0 ∷ (op.Get 0 ∷ (op.Add ∷ (op.Retv ∷ [])))) }

abbrev pub giver : Code
giver = record { params = 3 ∷ (1 ∷ []); result = 1; locals = []; stack = 1; instrs = op.Load 1 ∷ (op.Retv ∷ []) }

-- that image with these rows and this code at the start, which has a reference, a number and a truth value as locals
abbrev pub world_of : List ClassRow → Code → Image
world_of rs start =
    record {
      texts = record { bytes = 104 ∷ (105 ∷ []) } ∷ [];
      methods = record { params = 1 ∷ []; result = 1 } ∷ (record { params = 1 ∷ []; result = 0 } ∷ []);
      fields = 1 ∷ (4 ∷ []);
      groups = record { slots = 1 ∷ (3 ∷ []) } ∷ [];
      classes = rs;
      codes = start ∷ (adder ∷ (giver ∷ []));
      start = 0;
    }

abbrev pub start_code : List Instr → Code
start_code xs = record { params = []; result = 0; locals = 3 ∷ (1 ∷ (2 ∷ [])); stack = 4; instrs = xs }

abbrev pub world : List Instr → Image
world xs = world_of rows (start_code xs)

-- it is valid, and within 9 cells, a depth of 2 and 100 instructions its run comes to this halt with this output
pub record Runs (xs : List Instr) (halt : Halt) (output : List ℕ) : Type 0 where
  pub valid : first_fault (world xs) ≡ None
  pub run : mach (world xs) 9 2 100 ≡ record { outcome = Some halt; output = output }

-- the same with other bounds
pub record RunsWithin (cells depth : ℕ) (xs : List Instr) (halt : Halt) : Type 0 where
  pub valid : first_fault (world xs) ≡ None
  pub run : (mach (world xs) cells depth 100).outcome ≡ Some halt

-- the first fault where this code begins the run, or where this row is the last
abbrev pub code_fault : List Instr → Option ImageFault
code_fault xs = first_fault (world xs)

abbrev pub with_row : ClassRow → List ClassRow
with_row r = package_row 0 1 ∷ (class_row 0 1 2 3 ∷ (package_row 2 3 ∷ (class_row 2 2 0 1 ∷ (r ∷ []))))

abbrev pub row_fault : ClassRow → Option ImageFault
row_fault r = first_fault (world_of (with_row r) (start_code (op.Ret ∷ [])))

-- and where the slots of an object are of these kinds
abbrev pub slots_fault : List ℕ → Option ImageFault
slots_fault kinds = first_fault (record (world (op.Ret ∷ [])) { groups = record { slots = kinds } ∷ [] })
