-- How many operands the codes of a program hold.
use Rattle.std.specs.Prelude.{◌≡◌, ◌≤◌, ℕ, ◌+◌, ◌*◌, List, [], ◌∷◌, length, Bool, Some, slice_get}
use Rattle.jn_base.specs.declared.tree.Expr.{Expr}
use Rattle.jn_base.specs.declared.tree.Stmt.{Stmt}
use Rattle.jn_base.specs.declared.tree.Place.{Place}
use Rattle.jn_base.specs.declared.tree.Program.{Program}
use Rattle.jn_base.specs.Parts.{Part, Role, Plain, Opens, Declares, Parameter, Local, Atom}
use Rattle.jn_base.specs.GrammarExpr.{IsExpr}
use Rattle.jn_base.specs.GrammarStmt.{IsStmts}
use Rattle.jn_code.specs.declared.image.Code.{Code}
use Rattle.jn_sem.specs.Terms.{Site}
use Rattle.jn_agree.specs.declared.selectors.MethodSel.{MethodSel}
use Rattle.jn_agree.specs.Naming.{Naming}
use Rattle.jn_agree.specs.Places.{ExprAt, StmtsAt}
use Rattle.jn_size_laws.specs.Operands.{expr_needs, stmts_need}

-- at most 200 marks and prefix operators are open at once
abbrev pub NestsRole : Role → Type 0
NestsRole (Opens n) = n ≤ 200
NestsRole Plain = Unit {0}
NestsRole (Declares n) = Unit {0}
NestsRole (Parameter n) = Unit {0}
NestsRole (Local n) = Unit {0}
NestsRole (Atom n) = Unit {0}

abbrev pub NestsOne : Part → Type 0
NestsOne x = NestsRole x.role

abbrev pub Nests : List Part → Type 0
Nests [] = Unit {0}
Nests (x ∷ xs) = NestsOne x × Nests xs

-- a method has at most 15 parameters
abbrev pub FewParams : Naming → Type 0
FewParams n = (s : ℕ) (x : MethodSel) → slice_get n.methods s ≡ Some x → length x.shape.params ≤ 15

pub record OperandsOf : Type 0 where
  -- Within d open marks, where r more may be opened, a code holds at most 19 operands for each of those, and five.
  pub expr : (d r : ℕ) → d + r ≡ 200 → (p : Place) (w : List Part) (e : Expr) → IsExpr d p w e → Nests w
      → (expr_needs e).arguments ≤ 15 → (expr_needs e).operands ≤ 19 * r + 5
  -- So those of a body are fewer than the 4,096 that an image may say.
  pub stmts : (d r : ℕ) → d + r ≡ 200 → (k m : ℕ) (w : List Part) (ss : List Stmt) → IsStmts d k w ss m → Nests w
      → (stmts_need ss).arguments ≤ 15 → (stmts_need ss).operands ≤ 3806
  -- Where the code is that of the form, it has as many arguments as the selectors say.
  pub arguments : (p : Program) (n : Naming) (scratch : ℕ) (code : Code) (at : Site) (keeps : Bool) (e : Expr) (s t : ℕ)
      → FewParams n → ExprAt p n scratch code at keeps e s t → (expr_needs e).arguments ≤ 15
  pub arguments_of : (p : Program) (n : Naming) (scratch : ℕ) (code : Code) (at : Site) (path : ℕ) (ss : List Stmt)
      (s t : ℕ) → FewParams n → StmtsAt p n scratch code at path ss s t → (stmts_need ss).arguments ≤ 15
