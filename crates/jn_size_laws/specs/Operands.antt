-- How many operands the code of a form holds at most, and how many arguments a form has at most.
use Rattle.std.specs.Prelude.{ℕ, suc, ◌+◌, max, List, [], ◌∷◌, length, map, Option, Some, None}
use Rattle.jn_base.specs.declared.tree.Op.{Op}
use Rattle.jn_base.specs.declared.tree.Op.TheVariants as op
use Rattle.jn_base.specs.declared.tree.Node.{Node, fold-Node}
use Rattle.jn_base.specs.declared.tree.Node.TheOpen.{Node-F, Expr-F, Link-F, Suffix-F}
use Rattle.jn_base.specs.declared.tree.Expr.{Expr, fold-Expr}
use Rattle.jn_base.specs.declared.tree.Link.{Link, fold-Link}
use Rattle.jn_base.specs.declared.tree.Suffix.{Suffix, fold-Suffix}
use Rattle.jn_base.specs.declared.tree.Stmt.{Stmt, fold-Stmt}
use Rattle.jn_base.specs.declared.tree.Stmt.TheOpen.{Stmt-F}

-- how many operands, above those that stood before; and the most arguments of one call within
pub record Needs : Type 0 where
  pub operands : ℕ
  pub arguments : ℕ

abbrev pub needs : (operands arguments : ℕ) → Needs
needs o a = record { operands = o; arguments = a }

-- the most arguments of all
abbrev pub most : List Needs → ℕ
most [] = 0
most (x ∷ xs) = max x.arguments (most xs)

-- the most operands of all
abbrev pub highest : List Needs → ℕ
highest [] = 0
highest (x ∷ xs) = max x.operands (highest xs)

-- one behind the other, each above those before it, of which so many stand there
abbrev pub stacked : ℕ → List Needs → ℕ
stacked base [] = base
stacked base (x ∷ xs) = max (base + x.operands) (stacked (suc base) xs)

-- ---- expressions

-- The first argument of `super` stands alone, the others above `this` and it; then comes the class.
abbrev pub super_holds : List Needs → ℕ
super_holds [] = 2
super_holds (x ∷ xs) = max x.operands (max (stacked 2 xs) (length xs + 3))

-- the right operand of `&&` and `||` has the place of the left one
abbrev pub link_holds : Op → ℕ → ℕ
link_holds op.And n = n
link_holds op.Or n = n
link_holds o n = suc n

abbrev pub node_step : Node-F Needs Needs Needs Needs → Needs
node_step (Node-F.Int z) = needs 1 0
node_step (Node-F.Bool b) = needs 1 0
node_step Node-F.Null = needs 1 0
node_step Node-F.This = needs 1 0
node_step (Node-F.Var x) = needs 1 0
node_step (Node-F.New t args) = needs (max (stacked 0 args) (length args + 1)) (max (most args) (length args))
node_step (Node-F.Super t name args) = needs (super_holds args) (max (most args) (length args))
node_step (Node-F.Post e suffixes) =
    needs (max e.operands (highest suffixes)) (max e.arguments (most suffixes))
node_step (Node-F.Not e) = e
node_step (Node-F.Neg e) = e
node_step (Node-F.View v e) = needs (max e.operands 2) e.arguments
node_step (Node-F.Chain level e links) = needs (max e.operands (highest links)) (max e.arguments (most links))

abbrev pub expr_step : Expr-F Needs Needs Needs Needs → Needs
expr_step e = e.node

abbrev pub link_step : Link-F Needs Needs Needs Needs → Needs
link_step l = needs (link_holds l.op l.right.operands) l.right.arguments

-- a receiver stands below the arguments
abbrev pub args_need : Option (List Needs) → Needs
args_need None = needs 1 0
args_need (Some args) = needs (stacked 1 args) (max (most args) (length args))

abbrev pub suffix_step : Suffix-F Needs Needs Needs Needs → Needs
suffix_step s = args_need s.args

unfoldable pub node_needs : Node → Needs
node_needs = fold-Node Needs Needs Needs Needs node_step expr_step link_step suffix_step

unfoldable pub expr_needs : Expr → Needs
expr_needs = fold-Expr Needs Needs Needs Needs node_step expr_step link_step suffix_step

unfoldable pub link_needs : Link → Needs
link_needs = fold-Link Needs Needs Needs Needs node_step expr_step link_step suffix_step

unfoldable pub suffix_needs : Suffix → Needs
suffix_needs = fold-Suffix Needs Needs Needs Needs node_step expr_step link_step suffix_step

-- ---- statements

abbrev pub value_needs : Option Expr → Needs
value_needs None = needs 0 0
value_needs (Some e) = expr_needs e

abbrev pub also : Needs → Needs → Needs
also x y = needs (max x.operands y.operands) (max x.arguments y.arguments)

abbrev pub all_need : List Needs → Needs
all_need xs = needs (highest xs) (most xs)

-- the value of a field assignment stands above the receiver
abbrev pub stmt_step : Stmt-F Needs → Needs
stmt_step (Stmt-F.Block body) = all_need body
stmt_step (Stmt-F.Local fixed ty name e) = expr_needs e
stmt_step (Stmt-F.Assign name e) = expr_needs e
stmt_step (Stmt-F.Set of name e) =
    also (expr_needs of) (needs (suc (expr_needs e).operands) (expr_needs e).arguments)
stmt_step (Stmt-F.Do e) = expr_needs e
stmt_step (Stmt-F.If e body other at) = also (expr_needs e) (also (all_need body) (all_need other))
stmt_step (Stmt-F.While e body at) = also (expr_needs e) (all_need body)
stmt_step (Stmt-F.Return e at) = value_needs e
stmt_step (Stmt-F.Print e at) = expr_needs e
stmt_step (Stmt-F.PrintText text at) = needs 0 0

unfoldable pub stmt_needs : Stmt → Needs
stmt_needs = fold-Stmt Needs stmt_step

abbrev pub stmts_need : List Stmt → Needs
stmts_need ss = all_need (map stmt_needs ss)

-- Example: `a + b * c` holds 3 operands; `o.m(1, 2)` holds 3, the receiver and two; `new A()` holds one, the class.
