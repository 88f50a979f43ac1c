-- How many instructions the code of a form has at most.
use Rattle.std.specs.Prelude.{ℕ, ◌+◌, List, [], ◌∷◌, length, map, Option, Some, None}
use Rattle.jn_base.specs.declared.tree.Term.{Term}
use Rattle.jn_base.specs.declared.tree.Node.{Node, fold-Node}
use Rattle.jn_base.specs.declared.tree.Node.TheOpen.{Node-F, Expr-F, Link-F, Suffix-F}
use Rattle.jn_base.specs.declared.tree.Expr.{Expr, fold-Expr}
use Rattle.jn_base.specs.declared.tree.Link.{Link, fold-Link}
use Rattle.jn_base.specs.declared.tree.Suffix.{Suffix, fold-Suffix}
use Rattle.jn_base.specs.declared.tree.Stmt.{Stmt, fold-Stmt}
use Rattle.jn_base.specs.declared.tree.Stmt.TheOpen.{Stmt-F}
use Rattle.jn_base.specs.Resolve.{names_of}

abbrev pub total : List ℕ → ℕ
total [] = 0
total (x ∷ xs) = x + total xs

-- ---- expressions

-- a class takes DOWN for each name of its term, and LOAD, VIEWOF and UP
abbrev pub class_size : Term → ℕ
class_size t = length (names_of t) + 3

-- Where a form has its operands: `new` takes the class, NEW, CTOR and POP; `super` STORE, LOAD, LOAD, CLS, CALLAT and
-- POP; a view the class and CONV; an operator at most three; a field GET; a call CALL and POP.
abbrev pub node_step : Node-F ℕ ℕ ℕ ℕ → ℕ
node_step (Node-F.Int z) = 1
node_step (Node-F.Bool b) = 1
node_step Node-F.Null = 1
node_step Node-F.This = 1
node_step (Node-F.Var x) = 1
node_step (Node-F.New t args) = total args + (class_size t + 3)
node_step (Node-F.Super t name args) = total args + 6
node_step (Node-F.Post e suffixes) = e + total suffixes
node_step (Node-F.Not e) = e + 1
node_step (Node-F.Neg e) = e + 1
node_step (Node-F.View v e) = e + (class_size v.term + 1)
node_step (Node-F.Chain level e links) = e + total links

abbrev pub expr_step : Expr-F ℕ ℕ ℕ ℕ → ℕ
expr_step e = e.node

abbrev pub link_step : Link-F ℕ ℕ ℕ ℕ → ℕ
link_step l = l.right + 3

abbrev pub args_size : Option (List ℕ) → ℕ
args_size None = 1
args_size (Some args) = total args + 2

abbrev pub suffix_step : Suffix-F ℕ ℕ ℕ ℕ → ℕ
suffix_step s = args_size s.args

unfoldable pub node_size : Node → ℕ
node_size = fold-Node ℕ ℕ ℕ ℕ node_step expr_step link_step suffix_step

unfoldable pub expr_size : Expr → ℕ
expr_size = fold-Expr ℕ ℕ ℕ ℕ node_step expr_step link_step suffix_step

unfoldable pub link_size : Link → ℕ
link_size = fold-Link ℕ ℕ ℕ ℕ node_step expr_step link_step suffix_step

unfoldable pub suffix_size : Suffix → ℕ
suffix_size = fold-Suffix ℕ ℕ ℕ ℕ node_step expr_step link_step suffix_step

-- ---- statements

abbrev pub value_size : Option Expr → ℕ
value_size None = 0
value_size (Some e) = expr_size e

-- A local takes CHECK and STORE; `if` and `while` a branch and a jump.
abbrev pub stmt_step : Stmt-F ℕ → ℕ
stmt_step (Stmt-F.Block body) = total body
stmt_step (Stmt-F.Local fixed ty name e) = expr_size e + 2
stmt_step (Stmt-F.Assign name e) = expr_size e + 1
stmt_step (Stmt-F.Set of name e) = expr_size of + (expr_size e + 1)
stmt_step (Stmt-F.Do e) = expr_size e
stmt_step (Stmt-F.If e body other at) = expr_size e + (total body + (total other + 2))
stmt_step (Stmt-F.While e body at) = expr_size e + (total body + 2)
stmt_step (Stmt-F.Return e at) = value_size e + 1
stmt_step (Stmt-F.Print e at) = expr_size e + 1
stmt_step (Stmt-F.PrintText text at) = 1

unfoldable pub stmt_size : Stmt → ℕ
stmt_size = fold-Stmt ℕ stmt_step

abbrev pub stmts_size : List Stmt → ℕ
stmts_size ss = total (map stmt_size ss)

-- Example: `a + b * c` has 3 for its variables and 3 for each operator; `new A(x)` has 1 for x, 4 for the class A
-- and 3.
