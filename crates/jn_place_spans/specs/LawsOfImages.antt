-- The codes of an image whose bodies stand at their typed places.
use Rattle.std.specs.Prelude.{◌≡◌, ◌≤◌, ◌+◌, ℕ, List, All, length, map, None, Some, Ok, slice_get}
use Rattle.jn_base.specs.declared.tree.Program.{Program}
use Rattle.jn_base.specs.Spelling.{SourceSpells, IsTextOf, greatest_source}
use Rattle.jn_code.specs.declared.image.Image.{Image}
use Rattle.jn_code.specs.declared.image.Code.{Code}
use Rattle.jn_code.specs.Form.{ShapeInForm, InForm}
use Rattle.jn_code.specs.Spells.{file_of, limit}
use Rattle.jn_code.specs.Valid.{codes_fault}
use Rattle.jn_sem.specs.Acts.{path_behind}
use Rattle.jn_sem.specs.Does.{Body}
use Rattle.jn_laws.specs.LawsOfWritten.{Shallow}
use Rattle.jn_rules.specs.Questions.{Gives}
use Rattle.jn_rules.specs.Headers.{Header, header_typed}
use Rattle.jn_rules.specs.Stmts.{body_with}
use Rattle.jn_body_laws.specs.BodyForms.{StmtsFormed}
use Rattle.jn_agree.specs.Naming.{Naming}
use Rattle.jn_agree.specs.Rows.{RowsAre}
use Rattle.jn_agree.specs.Places.{StartAt}
use Rattle.jn_places.specs.StmtPlaces.{TypedBodyAt}
use Rattle.jn_size_laws.specs.Operands.{stmts_need}
use Rattle.jn_size_laws.specs.Sizes.{total}
use Rattle.jn_size_laws.specs.Files.{shape_bytes, head_bytes, fields_of, all_entries}
use Rattle.jn_place_spans.specs.LawsOfBodies.{HasRoom}

-- The code stands at the typed place of the body, which the rules accept with its header and which has the forms of the
-- grammar. (Each body of an accepted program within the limits is so.)
pub record CodeStands (p : Program) (n : Naming) (b : Body) (it : Code) : Type 0 where
  pub header : Header
  pub head : Gives p (header_typed b) (Ok header)
  pub accepted : Gives p (body_with b header) (Ok tt)
  pub formed : StmtsFormed p b.method.body
  pub at : TypedBodyAt p n b header it

-- the codes of an image: those of the bodies, and the start's, with room for their operands
pub record CodesStand (p : Program) (i : Image) (n : Naming) : Type 0 where
  pub bodies : (j : ℕ) (b : Body) (c : Code) → slice_get n.bodies j ≡ Some b → slice_get i.codes j ≡ Some c
      → CodeStands p n b c × HasRoom b c
  pub start : (c : Code) → slice_get i.codes i.start ≡ Some c → StartAt p n c × (1 ≤ c.stack)

-- SUCH AN IMAGE HAS NO FAULT IN ITS CODES, NOR AT ITS START, where it has the program's rows.
abbrev pub CodesValid : Type 0
CodesValid = (p : Program) → Shallow p → (i : Image) (n : Naming) → RowsAre p i n → CodesStand p i n
    → codes_fault i 0 i.codes ≡ None

-- And the bodies of a program that is read from a source hold no more than 3,806 operands, where no selector
-- of the image has more than 15 parameters.
abbrev pub OperandsFew : Type 0
OperandsFew = (p : Program) (bytes : List ℕ) → IsTextOf p bytes → Shallow p → (i : Image) (n : Naming) → RowsAre p i n
    → All ShapeInForm i.methods → (j : ℕ) (b : Body) (c : Code) → slice_get n.bodies j ≡ Some b → CodeStands p n b c
    → length c.params + length c.locals ≤ 255 → (stmts_need b.method.body).operands ≤ 3806

-- ---- the file

-- What is owed beside: a code has at most three locals more than its body has, the selectors are no more than one
-- for each method and one for each field, the groups no more than the classes, and there are at most 1,048,576 entries.
pub record RestFits (p : Program) (i : Image) (n : Naming) : Type 0 where
  pub locals : (j : ℕ) (b : Body) (c : Code) → slice_get n.bodies j ≡ Some b → slice_get i.codes j ≡ Some c
      → length c.params + length c.locals ≤ path_behind b.method.body (length c.params) + 3
  pub methods : total (map shape_bytes i.methods) ≤ total (map head_bytes n.bodies)
  pub fields : length i.fields ≤ fields_of p
  pub groups : length i.groups ≤ length i.classes
  pub entries : all_entries i ≤ 1048576

-- SO THE FILE OF THE IMAGE IS WITHIN ITS LIMIT, for each source within its own.
abbrev pub FilesStand : Type 0
FilesStand = (p : Program) (bytes : List ℕ) → SourceSpells p bytes → length bytes ≤ greatest_source → Shallow p
    → (i : Image) (n : Naming) → RowsAre p i n → InForm i → CodesStand p i n → RestFits p i n
    → length (file_of i) ≤ limit
