-- The forms of statements, of each program that is read from a source.
use Rattle.std.specs.Prelude.{◌≡◌, ℕ, List, [], ◌∷◌, ◌++◌, Some, Contains, slice_get}
use Rattle.jn_base.specs.declared.tree.Name.{Name}
use Rattle.jn_base.specs.declared.tree.Text.{Text}
use Rattle.jn_base.specs.declared.tree.Term.{Term}
use Rattle.jn_base.specs.declared.tree.TypeTerm.{TypeTerm}
use Rattle.jn_base.specs.declared.tree.Kind.TheVariants as kind
use Rattle.jn_base.specs.declared.tree.Method.{Method}
use Rattle.jn_base.specs.declared.tree.Expr.{Expr}
use Rattle.jn_base.specs.declared.tree.Link.{Link}
use Rattle.jn_base.specs.declared.tree.Suffix.{Suffix}
use Rattle.jn_base.specs.declared.tree.Node.{Node, out-Node}
use Rattle.jn_base.specs.declared.tree.Node.TheOpen.{Node-F}
use Rattle.jn_base.specs.declared.tree.Stmt.{Stmt, fold-Stmt}
use Rattle.jn_base.specs.declared.tree.Stmt.TheOpen.{Stmt-F}
use Rattle.jn_base.specs.declared.tree.Program.{Program}
use Rattle.jn_base.specs.Paths.{Path}
use Rattle.jn_base.specs.Members.{MethodAt}
use Rattle.jn_base.specs.Atoms.{Among}
use Rattle.jn_base.specs.Forms.{Mentions, Termed, all_of, of_expr, of_stmt}
use Rattle.jn_base.specs.GrammarExpr.{EndsInCall}
use Rattle.jn_base.specs.WithinLimits.{IsWithinLimits}
use Rattle.jn_sem.specs.LawsOfSlots.{HeadNamed}
use Rattle.jn_laws.specs.LawsOfWritten.{TypeWellFormed}
use Rattle.jn_laws.specs.LawsOfBodies.{local_types}

-- ---- call statements and texts

-- a call: parts of which the last is a call, `new` or `super`
abbrev pub CallNode : Node-F Node Expr Link Suffix → Type 0
CallNode (Node-F.New t es) = Unit {0}
CallNode (Node-F.Super t m es) = Unit {0}
CallNode (Node-F.Post e ss) = EndsInCall ss
CallNode (Node-F.Int z) = ⊥
CallNode (Node-F.Bool b) = ⊥
CallNode Node-F.Null = ⊥
CallNode Node-F.This = ⊥
CallNode (Node-F.Var x) = ⊥
CallNode (Node-F.Not e) = ⊥
CallNode (Node-F.Neg e) = ⊥
CallNode (Node-F.View v e) = ⊥
CallNode (Node-F.Chain level e ls) = ⊥

abbrev pub IsCallForm : Expr → Type 0
IsCallForm e = CallNode (out-Node e.node)

-- what stands as a statement by itself, and what is printed as a text
pub data Use : Type 0 where
  Calls : Expr → Use
  Prints : ℕ → Use

-- those of a statement, in its blocks too
abbrev pub uses_step : Stmt-F (List Use) → List Use
uses_step (Stmt-F.Do e) = Calls e ∷ []
uses_step (Stmt-F.PrintText text at) = Prints text ∷ []
uses_step (Stmt-F.Block body) = all_of body
uses_step (Stmt-F.If e body other at) = all_of body ++ all_of other
uses_step (Stmt-F.While e body at) = all_of body
uses_step (Stmt-F.Local fixed ty name e) = []
uses_step (Stmt-F.Assign name e) = []
uses_step (Stmt-F.Set of name e) = []
uses_step (Stmt-F.Return e at) = []
uses_step (Stmt-F.Print e at) = []

unfoldable pub uses : Stmt → List Use
uses = fold-Stmt (List Use) uses_step

-- a call is a call, and a text is one of the program
abbrev pub UseFormed : Program → Use → Type 0
UseFormed p (Calls e) = IsCallForm e
UseFormed p (Prints t) = (u : Text) × (slice_get p.texts t ≡ Some u)

-- Example: the uses of `this.f(); if (c) { print("a"); }` are the call and the text.

-- ---- statements

-- names stand before each bracket
abbrev pub TermsNamed : Mentions → Type 0
TermsNamed xs = (t : Term) → Contains xs (Termed t) → HeadNamed t.head

abbrev pub ExprFormed : Expr → Type 0
ExprFormed e = TermsNamed (of_expr e)

-- The statement has the forms of the grammar: names before brackets, types of locals with terms, calls, and texts.
pub record StmtFormed (p : Program) (s : Stmt) : Type 0 where
  pub terms : TermsNamed (of_stmt s)
  pub locals : (t : TypeTerm) → Contains (local_types s) t → TypeWellFormed t
  pub forms : (u : Use) → Contains (uses s) u → UseFormed p u

abbrev pub StmtsFormed : Program → List Stmt → Type 0
StmtsFormed p ss = (s : Stmt) → Among ss s → StmtFormed p s

-- ---- the law

-- the statements of each body are formed, and each method stands in a class
pub record BodiesOf (p : Program) : Type 0 where
  pub formed : (Q : Path) (m : Name) (x : Method) → MethodAt p Q m x → StmtsFormed p x.body
  pub in_class : (Q : Path) (m : Name) (x : Method) (at : MethodAt p Q m x) → at.decl.kind ≡ kind.Class

abbrev pub BodiesFormed : Type 0
BodiesFormed = (p : Program) → IsWithinLimits p → BodiesOf p
