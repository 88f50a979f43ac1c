-- The kinds of statements that stand at their places and are typed.
use Rattle.std.specs.Prelude.{◌≡◌, ◌≤◌, ◌<◌, ℕ, List, [], length, map, Ok, Contains}
use Rattle.jn_base.specs.declared.tree.Stmt.{Stmt}
use Rattle.jn_base.specs.declared.tree.Program.{Program}
use Rattle.jn_base.specs.Forms.{all_of}
use Rattle.jn_code.specs.declared.image.Image.{Image}
use Rattle.jn_code.specs.declared.image.Code.{Code}
use Rattle.jn_laws.specs.LawsOfWritten.{Shallow, scope_of}
use Rattle.jn_laws.specs.LawsOfScopes.{ScopesAlike}
use Rattle.jn_rules.specs.Questions.{Gives}
use Rattle.jn_rules.specs.Exprs.{site_here}
use Rattle.jn_rules.specs.Stmts.{In, Before, here, stmts_type}
use Rattle.jn_body_laws.specs.BodyForms.{Use, Prints, uses}
use Rattle.jn_agree.specs.Naming.{Naming}
use Rattle.jn_agree.specs.Rows.{RowsAre, result_kind}
use Rattle.jn_agree.specs.Spans.{Spans}
use Rattle.jn_places.specs.StmtPlaces.{StmtsAt}
use Rattle.jn_size_laws.specs.Operands.{stmts_need}
use Rattle.jn_place_spans.specs.LawsOfExprs.{LocalsAre}

-- Before a statement each variable in scope has its local, and the scope is that of the variables but for masks.
pub record Ready (it : Code) (b : In) (x : Before) : Type 0 where
  pub locals : LocalsAre it (here b x)
  pub alike : ScopesAlike (scope_of (site_here (here b x))) x.scope

-- each text that is printed is one of the image
abbrev pub TextsThere : Image → List Use → Type 0
TextsThere i us = (k : ℕ) → Contains us (Prints k) → k < length i.texts

-- the code has the body's result and holds an operand
pub record FitsBody (it : Code) (b : In) : Type 0 where
  pub result : it.result ≡ result_kind b.result
  pub some : 1 ≤ it.stack

-- STATEMENTS THAT STAND AT THEIR PLACES AND ARE TYPED ARE A PART WITH KINDS, from no operands to none, in an image with
-- the program's rows.
abbrev pub StmtsSpan : Type 0
StmtsSpan = (p : Program) → Shallow p → (i : Image) (n : Naming) → RowsAre p i n → (it : Code) (scratch : ℕ) (b : In)
    → FitsBody it b → (x : Before) → Ready it b x → (ss : List Stmt) → TextsThere i (all_of (map uses ss)) → (s t : ℕ)
    → StmtsAt p n scratch it b x ss s t → t < length it.instrs → (y : Before) → Gives p (stmts_type b ss x) (Ok y)
    → (stmts_need ss).operands ≤ it.stack → Spans i it s t [] []

-- Example: `if (b) { x = 1; }` leaves no operand, whichever way it goes.
