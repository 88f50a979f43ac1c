-- The kinds of a whole body whose code stands at its typed place.
use Rattle.std.specs.Prelude.{◌≤◌, ◌+◌, length, Ok}
use Rattle.jn_base.specs.declared.tree.Program.{Program}
use Rattle.jn_code.specs.declared.image.Image.{Image}
use Rattle.jn_code.specs.declared.image.Code.{Code}
use Rattle.jn_sem.specs.Does.{Body}
use Rattle.jn_laws.specs.LawsOfWritten.{Shallow}
use Rattle.jn_rules.specs.Questions.{Gives}
use Rattle.jn_rules.specs.Headers.{Header, header_typed}
use Rattle.jn_rules.specs.Stmts.{body_with}
use Rattle.jn_body_laws.specs.BodyForms.{StmtsFormed}
use Rattle.jn_agree.specs.Naming.{Naming}
use Rattle.jn_agree.specs.Rows.{RowsAre}
use Rattle.jn_places.specs.StmtPlaces.{TypedBodyAt}
use Rattle.jn_span_laws.specs.LawsOfSpans.{Passes}
use Rattle.jn_size_laws.specs.Operands.{stmts_need}

-- the code has at most 255 parameters and locals, and room for an operand and for as many as the body holds
pub record HasRoom (b : Body) (it : Code) : Type 0 where
  pub few : length it.params + length it.locals ≤ 255
  pub some : 1 ≤ it.stack
  pub operands : (stmts_need b.method.body).operands ≤ it.stack

-- A BODY WHOSE CODE STANDS AT ITS TYPED PLACE HAS A CODE WITH NO FAULT OF ITS OWN: in an image with the program's rows,
-- where the rules accept the body with its header, its statements have the forms of the grammar, and the code has room.
abbrev pub BodiesPass : Type 0
BodiesPass = (p : Program) → Shallow p → (i : Image) (n : Naming) → RowsAre p i n → (b : Body) (k : Header) (it : Code)
    → Gives p (header_typed b) (Ok k) → Gives p (body_with b k) (Ok tt) → StmtsFormed p b.method.body
    → TypedBodyAt p n b k it → HasRoom b it → Passes i it
