-- What stands at typed places stands at the places: so what is known of the sizes of codes and of their operands holds.
use Rattle.std.specs.Prelude.{◌≡◌, ◌≤◌, ◌+◌, ℕ, List, length, Bool, Some, Ok, slice_get}
use Rattle.jn_base.specs.declared.tree.Expr.{Expr}
use Rattle.jn_base.specs.declared.tree.Stmt.{Stmt}
use Rattle.jn_base.specs.declared.tree.Program.{Program}
use Rattle.jn_base.specs.Scopes.{Scope}
use Rattle.jn_base.specs.Spelling.{IsTextOf}
use Rattle.jn_code.specs.declared.image.Code.{Code}
use Rattle.jn_sem.specs.Acts.{path_behind}
use Rattle.jn_sem.specs.Does.{Body}
use Rattle.jn_laws.specs.LawsOfWritten.{Shallow}
use Rattle.jn_rules.specs.Questions.{Gives}
use Rattle.jn_rules.specs.Headers.{Header, header_typed}
use Rattle.jn_rules.specs.Exprs.{Here, site_here, Typed, expr_types}
use Rattle.jn_rules.specs.Stmts.{In, Before, here, stmts_type, body_with}
use Rattle.jn_agree.specs.Naming.{Naming}
use Rattle.jn_agree.specs.Rows.{bodies_of}
use Rattle.jn_agree.specs.Places as plain
use Rattle.jn_places.specs.ExprPlaces.{ExprAt}
use Rattle.jn_places.specs.StmtPlaces.{StmtsAt, TypedBodyAt}
use Rattle.jn_size_laws.specs.LawsOfSizes.{Sized}
use Rattle.jn_size_laws.specs.LawsOfOperands.{FewParams}
use Rattle.jn_size_laws.specs.Operands.{stmts_need}
use Rattle.jn_place_spans.specs.LawsOfExprs.{LocalsAre, SeesAs}
use Rattle.jn_place_spans.specs.LawsOfStmts.{Ready}

-- an expression that is typed
abbrev pub ExprsStand : Type 0
ExprsStand = (p : Program) → Shallow p → (n : Naming) (scratch : ℕ) (it : Code) (h : Here) → LocalsAre it h
    → (sc : Scope)
    → SeesAs h sc → (keeps : Bool) (e : Expr) (s t : ℕ) → ExprAt p n scratch it h sc keeps e s t → (y : Typed)
    → Gives p (expr_types h e sc) (Ok y) → plain.ExprAt p n scratch it (site_here h) keeps e s t

-- statements that are typed
abbrev pub StmtsStand : Type 0
StmtsStand = (p : Program) → Shallow p → (n : Naming) (scratch : ℕ) (it : Code) (b : In) (x : Before) → Ready it b x
    → (ss : List Stmt) (s t : ℕ) → StmtsAt p n scratch it b x ss s t → (y : Before) → Gives p (stmts_type b ss x) (Ok y)
    → plain.StmtsAt p n scratch it (site_here (here b x)) x.next ss s t

-- A BODY WHOSE CODE STANDS AT ITS TYPED PLACE: where the rules accept it with its header, the code stands at its place.
-- So it is no longer than the body allows, where it has three locals at most beside those of the body; and its
-- statements have no more than 15 arguments in one call.
pub record BodyStands (p : Program) (n : Naming) (b : Body) (it : Code) : Type 0 where
  pub at : plain.BodyAt p n b it
  pub sized : length it.params + length it.locals ≤ path_behind b.method.body (length it.params) + 3 → Sized b it
  pub arguments : FewParams n → (stmts_need b.method.body).arguments ≤ 15

abbrev pub BodiesStand : Type 0
BodiesStand = (p : Program) → Shallow p → (n : Naming) (b : Body) (k : Header) (it : Code)
    → Gives p (header_typed b) (Ok k)
    → Gives p (body_with b k) (Ok tt) → TypedBodyAt p n b k it → length it.params + length it.locals ≤ 255
    → BodyStands p n b it

-- ---- how many operands

-- where no call has more than 15 arguments, as none has whose code stands at its place
abbrev pub HoldsFew : Body → Type 0
HoldsFew b = (stmts_need b.method.body).arguments ≤ 15 → (stmts_need b.method.body).operands ≤ 3806

-- each body of a program that is read from a source within the limits
abbrev pub SourcesHoldFew : Type 0
SourcesHoldFew = (p : Program) (bytes : List ℕ) → IsTextOf p bytes → (j : ℕ) (b : Body)
    → slice_get (bodies_of p) j ≡ Some b → HoldsFew b
