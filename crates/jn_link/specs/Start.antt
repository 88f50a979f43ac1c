-- The parts of an image that need no types: its texts, what its selectors are, and the code with which a run begins.
use Rattle.std.specs.Prelude.{◌≡◌, ◌++◌, ℕ, List, [], ◌∷◌, Option, Some, None, map, slice_get}
use Rattle.jn_base.specs.declared.tree.Name.{Name}
use Rattle.jn_base.specs.declared.tree.Text.{Text}
use Rattle.jn_base.specs.Paths.{shown}
use Rattle.jn_table.specs.declared.table.Table.{Table}
use Rattle.jn_code.specs.declared.image.Text as image
use Rattle.jn_code.specs.declared.image.Shape.{Shape}
use Rattle.jn_code.specs.declared.instr.Instr.{Instr}
use Rattle.jn_code.specs.declared.instr.Instr.TheVariants as ins
use Rattle.jn_agree.specs.declared.selectors.MethodSel.{MethodSel}
use Rattle.jn_agree.specs.declared.selectors.FieldSel.{FieldSel}
use Rattle.jn_agree.specs.Naming.{Naming}

-- ---- lists, one by one

abbrev pub text_bytes : Text → List ℕ
text_bytes x = x.bytes

abbrev pub image_bytes : image.Text → List ℕ
image_bytes x = x.bytes

abbrev pub sel_shape : MethodSel → Shape
sel_shape x = x.shape

abbrev pub sel_kind : FieldSel → ℕ
sel_kind x = x.kind

-- ---- what the start's code is made of

-- the name number k is spelled so
pub record SpellsAt (names : List Text) (bytes : List ℕ) (k : ℕ) : Type 0 where
  pub text : Text
  pub at : slice_get names k ≡ Some text
  pub is : text.bytes ≡ bytes

-- the selector of methods of that name without parameters and without a result
abbrev pub bare_sel : Name → MethodSel
bare_sel name = record { name = name; shape = record { params = []; result = 0 } }

-- the number is that of this selector, and there is none exactly where no method has it
pub record IsBareAt (names : List MethodSel) (name : Name) (found : Option ℕ) : Type 0 where
  pub some : (j : ℕ) → found ≡ Some j → slice_get names j ≡ Some (bare_sel name)
  pub none : found ≡ None → (j : ℕ) → slice_get names j ≡ Some (bare_sel name) → ⊥

-- the classes have the numbers of the table
abbrev pub AreClassesOf : Table → Naming → Type 0
AreClassesOf t n = t.known.items ≡ map shown n.classes

-- CTOR of the number, and nothing where there is none
abbrev pub made_by : Option ℕ → List Instr
made_by None = []
made_by (Some j) = ins.Ctor j ∷ []

-- an object of the class is made, and the method is called on it
abbrev pub start_instrs : ℕ → Option ℕ → ℕ → List Instr
start_instrs class constructor main =
    ins.Cls class ∷ (ins.New ∷ (made_by constructor ++ (ins.Call main ∷ (ins.Ret ∷ []))))

-- Example: where class 3 is Main, it has no constructor, and selector 2 is `void main()`, the start's code is CLS 3,
-- NEW, CALL 2, RET.
