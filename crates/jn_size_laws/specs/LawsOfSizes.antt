-- What the codes of a program take in a file, and how many operands they hold.
use Rattle.std.specs.Prelude.{◌≡◌, ◌≤◌, ℕ, suc, ◌+◌, ◌*◌, List, length, Bool}
use Rattle.jn_base.specs.declared.tree.Expr.{Expr}
use Rattle.jn_base.specs.declared.tree.Stmt.{Stmt}
use Rattle.jn_base.specs.declared.tree.Member.TheVariants as member
use Rattle.jn_base.specs.declared.tree.Member.{Member}
use Rattle.jn_base.specs.declared.tree.Kind.{Kind}
use Rattle.jn_base.specs.declared.tree.Place.{Place}
use Rattle.jn_base.specs.declared.tree.Program.{Program}
use Rattle.jn_base.specs.Parts.{Part}
use Rattle.jn_base.specs.GrammarExpr.{IsExpr}
use Rattle.jn_base.specs.GrammarStmt.{IsStmts}
use Rattle.jn_base.specs.GrammarDecl.{IsMember}
use Rattle.jn_code.specs.declared.image.Code.{Code}
use Rattle.jn_code.specs.SpellsFile as file
use Rattle.jn_sem.specs.Terms.{Site}
use Rattle.jn_sem.specs.Acts.{path_behind}
use Rattle.jn_sem.specs.Does.{Body}
use Rattle.jn_agree.specs.Naming.{Naming}
use Rattle.jn_agree.specs.Places.{ExprAt, StmtsAt, BodyAt}
use Rattle.jn_size_laws.specs.Sizes.{expr_size, stmts_size}

-- The places of a form have at most as many instructions as its size says.
pub record PlacesOf (p : Program) (n : Naming) (scratch : ℕ) (code : Code) : Type 0 where
  pub expr : (at : Site) (keeps : Bool) (e : Expr) (s t : ℕ) → ExprAt p n scratch code at keeps e s t
      → t ≤ s + expr_size e
  pub stmts : (at : Site) (path : ℕ) (ss : List Stmt) (s t : ℕ) → StmtsAt p n scratch code at path ss s t
      → t ≤ s + stmts_size ss

abbrev pub PlacesFit : Type 0
PlacesFit = (p : Program) (n : Naming) (scratch : ℕ) (code : Code) → PlacesOf p n scratch code

-- A form has at most four instructions for each of its tokens.
pub record TokensOf : Type 0 where
  pub expr : (d : ℕ) (q : Place) (w : List Part) (e : Expr) → IsExpr d q w e → expr_size e ≤ 4 * length w
  pub stmts : (d k m : ℕ) (w : List Part) (ss : List Stmt) → IsStmts d k w ss m → stmts_size ss ≤ 4 * length w

-- The code is no longer than its body allows: kinds of the receiver and the parameters, three instructions for the test
-- of each parameter, those of the statements, and a return with its value. Its locals are those of the body, behind the
-- parameters, and three more at most. (No more is asked of how it was made.)
pub record Sized (b : Body) (code : Code) : Type 0 where
  pub params : length code.params ≡ suc (length b.method.params)
  pub instrs : length code.instrs ≤ 3 * length b.method.params + (stmts_size b.method.body + 2)
  pub locals : length code.params + length code.locals ≤ path_behind b.method.body (length code.params) + 3

-- So is a code that stands at the places of its body.
abbrev pub BodiesSized : Type 0
BodiesSized =
    (p : Program) (n : Naming) (b : Body) (code : Code) → BodyAt p n b code
    → length code.params + length code.locals ≤ path_behind b.method.body (length code.params) + 3 → Sized b code

-- In every source the code of a method takes at most 64 bytes in a file for each token of it.
abbrev pub CodesAreShort : Type 0
CodesAreShort =
    (b : Body) (code : Code) (k : Kind) (d depth : ℕ) (w : List Part) (m : Member) → Sized b code
    → m ≡ member.Body b.method → IsMember k d depth w m → length (file.code.spelled code) ≤ 64 * length w

-- Example: the code of `int m(final A a) { return 1; }` has LOAD 1, CHECK, POP, INT 1, RETV, and INT 0, RETV behind its
-- end: seven instructions, and 3 * 1 + (2 + 2) are allowed. Its method has 12 tokens, so it takes at most 768 bytes.
