-- Expressions and statements worked out.
use Rattle.std.specs.Prelude.{ℕ, ◌≡◌, List, [], ◌∷◌, codes, Some, None, pos}
use Rattle.jn_base.specs.declared.tree.Name.{Name}
use Rattle.jn_base.specs.declared.tree.Text.{Text}
use Rattle.jn_base.specs.declared.tree.Place.{Place}
use Rattle.jn_base.specs.declared.tree.Term.{Term}
use Rattle.jn_base.specs.declared.tree.ViewTerm.{ViewTerm}
use Rattle.jn_base.specs.declared.tree.Head.TheVariants as head
use Rattle.jn_base.specs.declared.tree.Level.{Level}
use Rattle.jn_base.specs.declared.tree.Level.TheVariants as level
use Rattle.jn_base.specs.declared.tree.Op.{Op}
use Rattle.jn_base.specs.declared.tree.Op.TheVariants as op
use Rattle.jn_base.specs.declared.tree.Expr.{Expr}
use Rattle.jn_base.specs.declared.tree.Suffix.{Suffix}
use Rattle.jn_base.specs.declared.tree.Node.TheVariants as node
use Rattle.jn_base.specs.declared.tree.Stmt.{Stmt}
use Rattle.jn_base.specs.declared.tree.Stmt.TheVariants as stmt
use Rattle.jn_base.specs.Parts.{named, term, expr, suffix, link}
use Rattle.jn_printer.specs.declared.symbol.Symbol.TheVariants as symbol
use Rattle.jn_printer.specs.ExprText.{expr_text}
use Rattle.jn_printer.specs.StmtText.{escaped, stmt_text}
use Rattle.jn_base.specs.Unplaced.{unplaced_expr}

abbrev pub here : Place
here = record { line = 1; column = 1 }

abbrev pub called : ℕ → Name
called n = record { 0 = n }

abbrev pub text : List ℕ → Text
text w = record { bytes = w }

-- the names a, b, c, f, T by their numbers
abbrev pub names : List Text
names = text (codes "a") ∷ text (codes "b") ∷ text (codes "c") ∷ text (codes "f") ∷ text (codes "T") ∷ []

abbrev pub a : Expr
a = expr here (node.Var (called 0))

abbrev pub b : Expr
b = expr here (node.Var (called 1))

abbrev pub c : Expr
c = expr here (node.Var (called 2))

abbrev pub two : Level → Op → Expr → Expr → Expr
two l o x y = expr here (node.Chain l x (link o here y ∷ []))

abbrev pub negative : Expr → Expr
negative e = expr here (node.Neg e)

abbrev pub field : Suffix
field = suffix (called 3) here None

abbrev pub call : List Expr → Suffix
call es = suffix (called 3) here (Some es)

abbrev pub part : Expr → Suffix → Expr
part e s = expr here (node.Post e (s ∷ []))

abbrev pub class_term : Term
class_term = term head.Plain [] (called 4 ∷ []) here

-- T\f
abbrev pub masked : ViewTerm
masked = record { term = class_term; masks = named (called 3) here ∷ [] }

abbrev pub viewed : Expr → Expr
viewed e = expr here (node.View masked e)

abbrev pub shown : Expr → List ℕ
shown e = expr_text names e symbol.Expression

-- An operand that is a chain of its own.
pub record ChainExamples : Type 0 where
  pub looser_left : shown (two level.Product op.Mul (two level.Sum op.Add a b) c) ≡ codes "(a + b) * c"
  pub tighter_right : shown (two level.Sum op.Add a (two level.Product op.Mul b c)) ≡ codes "a + b * c"
  pub same_left : shown (two level.Sum op.Add (two level.Sum op.Sub a b) c) ≡ codes "(a - b) + c"
  pub same_right : shown (two level.Sum op.Add a (two level.Sum op.Add b c)) ≡ codes "a + (b + c)"
  pub one_chain : shown (expr here (node.Chain level.Sum a (link op.Add here b ∷ link op.Sub here c ∷ []))) ≡ codes "a + b - c"
  pub same_equal : shown (two level.Equal op.Eq (two level.Equal op.Ne a b) c) ≡ codes "(a != b) == c"
  pub sides : shown (two level.Equal op.Eq (two level.Compare op.Lt a b) (two level.Compare op.Le b c)) ≡ codes "a < b == b <= c"
  pub looser_right : shown (two level.And op.And a (two level.Or op.Or b c)) ≡ codes "a && (b || c)"
  pub tighter_left : shown (two level.Or op.Or (two level.And op.And a b) c) ≡ codes "a && b || c"

-- Prefix operators, views, and what stands behind a dot.
pub record PartExamples : Type 0 where
  pub signs : shown (negative (negative (expr here (node.Int (pos 1))))) ≡ codes "--1"
  pub inverse : shown (expr here (node.Not (two level.Equal op.Eq a b))) ≡ codes "!(a == b)"
  pub sign_in_product : shown (two level.Product op.Mul a (negative b)) ≡ codes "a * -b"
  pub sign_of_part : shown (negative (part a field)) ≡ codes "-a.f"
  pub part_of_sign : shown (part (negative a) field) ≡ codes "(-a).f"
  pub view_of_part : shown (viewed (part a field)) ≡ codes "(view T\\f) a.f"
  pub part_of_view : shown (part (viewed a) field) ≡ codes "((view T\\f) a).f"
  pub part_of_part : shown (part (part a field) (call [])) ≡ codes "(a.f).f()"
  pub parts : shown (expr here (node.Post a (field ∷ call (two level.Or op.Or a b ∷ c ∷ []) ∷ []))) ≡ codes "a.f.f(a || b, c)"
  pub part_of_new : shown (part (expr here (node.New class_term (a ∷ []))) field) ≡ codes "new T(a).f"
  pub super_call : shown (expr here (node.Super class_term (named (called 3) here) (a ∷ []))) ≡ codes "super[T].f(a)"

-- The three escapes, and a character of two bytes.
abbrev pub EscapeExample : Type 0
EscapeExample = escaped (34 ∷ 92 ∷ 10 ∷ 195 ∷ 164 ∷ []) ≡ 92 ∷ 34 ∷ 92 ∷ 92 ∷ 92 ∷ 110 ∷ 195 ∷ 164 ∷ []

abbrev pub stated : Stmt → List ℕ
stated t = stmt_text names [] t []

-- What stands in front of the last name of `E.f = E;`, and an `else` with nothing in it.
pub record StmtExamples : Type 0 where
  pub set : stated (stmt.Set a (named (called 3) here) b) ≡ codes "a.f = b;"
  pub set_of_part : stated (stmt.Set (part a field) (named (called 3) here) b) ≡ codes "a.f.f = b;"
  pub set_of_parts : stated (stmt.Set (part (part a field) field) (named (called 3) here) b) ≡ codes "(a.f).f.f = b;"
  pub set_of_sum : stated (stmt.Set (two level.Sum op.Add a b) (named (called 3) here) c) ≡ codes "(a + b).f = c;"
  pub empty_else : stated (stmt.If a [] [] here) ≡ codes "if (a) {\n}"
  pub other_block : stated (stmt.If a [] (stmt.Block [] ∷ []) here) ≡ codes "if (a) {\n} else {\n  {\n  }\n}"

abbrev pub there : Place
there = record { line = 7; column = 9 }

-- a + b with places of its own
abbrev pub sum_at : Place → Place → Expr
sum_at p q = expr p (node.Chain level.Sum (expr p (node.Var (called 0))) (link op.Add q (expr q (node.Var (called 1))) ∷ []))

-- Places are not seen, and names are.
pub record PlaceExamples : Type 0 where
  pub same : unplaced_expr (sum_at here there) ≡ unplaced_expr (sum_at there here)
  pub differs : unplaced_expr a ≡ unplaced_expr b → ⊥
