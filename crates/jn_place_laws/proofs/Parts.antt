-- The expressions that stand in a body.
use Rattle.std.specs.Prelude.{◌≡◌, List, Bool, Some}
use Rattle.jn_base.specs.declared.tree.Named.{Named}
use Rattle.jn_base.specs.declared.tree.Place.{Place}
use Rattle.jn_base.specs.declared.tree.Term.{Term}
use Rattle.jn_base.specs.declared.tree.ViewTerm.{ViewTerm}
use Rattle.jn_base.specs.declared.tree.TypeTerm.{TypeTerm}
use Rattle.jn_base.specs.declared.tree.Level.{Level}
use Rattle.jn_base.specs.declared.tree.Node.TheVariants as node
use Rattle.jn_base.specs.declared.tree.Expr.{Expr}
use Rattle.jn_base.specs.declared.tree.Link.{Link}
use Rattle.jn_base.specs.declared.tree.Suffix.{Suffix, out-Suffix}
use Rattle.jn_base.specs.declared.tree.Stmt.{Stmt}
use Rattle.jn_base.specs.declared.tree.Stmt.TheVariants as stmt
use Rattle.jn_base.specs.Parts.{expr}
use Rattle.jn_base.specs.Atoms.{Among}
use Rattle.jn_sound.specs.KnownScopes.{StandsIn}

-- an expression of a statement that stands there, or a part of such an expression
pub data ExprIn (body : List Stmt) : Expr → Type 0 where
  of_local : (final : Bool) (t : TypeTerm) (x : Named) (e : Expr) → StandsIn body (stmt.Local final t x e)
      → ExprIn body e
  of_assign : (x : Named) (e : Expr) → StandsIn body (stmt.Assign x e) → ExprIn body e
  of_receiver : (r : Expr) (f : Named) (e : Expr) → StandsIn body (stmt.Set r f e) → ExprIn body r
  of_stored : (r : Expr) (f : Named) (e : Expr) → StandsIn body (stmt.Set r f e) → ExprIn body e
  of_do : (e : Expr) → StandsIn body (stmt.Do e) → ExprIn body e
  of_if : (e : Expr) (one other : List Stmt) (at : Place) → StandsIn body (stmt.If e one other at) → ExprIn body e
  of_while : (e : Expr) (ss : List Stmt) (at : Place) → StandsIn body (stmt.While e ss at) → ExprIn body e
  of_return : (e : Expr) (at : Place) → StandsIn body (stmt.Return (Some e) at) → ExprIn body e
  of_print : (e : Expr) (at : Place) → StandsIn body (stmt.Print e at) → ExprIn body e
  in_not : (at : Place) (e : Expr) → ExprIn body (expr at (node.Not e)) → ExprIn body e
  in_neg : (at : Place) (e : Expr) → ExprIn body (expr at (node.Neg e)) → ExprIn body e
  in_view : (at : Place) (v : ViewTerm) (e : Expr) → ExprIn body (expr at (node.View v e)) → ExprIn body e
  in_post : (at : Place) (e : Expr) (xs : List Suffix) → ExprIn body (expr at (node.Post e xs)) → ExprIn body e
  in_part : (at : Place) (e : Expr) (xs : List Suffix) (x : Suffix) (es : List Expr) (a : Expr)
      → ExprIn body (expr at (node.Post e xs)) → Among xs x → (out-Suffix x).args ≡ Some es → Among es a
      → ExprIn body a
  in_chain : (at : Place) (level : Level) (e : Expr) (ls : List Link) → ExprIn body (expr at (node.Chain level e ls))
      → ExprIn body e
  in_link : (at : Place) (level : Level) (e : Expr) (ls : List Link) (l : Link)
      → ExprIn body (expr at (node.Chain level e ls)) → Among ls l → ExprIn body l.right
  in_new : (at : Place) (t : Term) (es : List Expr) (a : Expr) → ExprIn body (expr at (node.New t es)) → Among es a
      → ExprIn body a
  in_super : (at : Place) (t : Term) (m : Named) (es : List Expr) (a : Expr)
      → ExprIn body (expr at (node.Super t m es)) → Among es a → ExprIn body a

-- Example: in the body `{ if (a) { f.g(1 + 2); } }` stand `a`, `f.g(1 + 2)`, `f`, `1 + 2`,
-- `1` and `2`.
