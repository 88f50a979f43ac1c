-- What a body has to do, as the list of its acts: each node acts once its operands are had.
use Rattle.std.specs.Prelude.{ℕ, suc, List, [], ◌∷◌, length, map, Bool, true, false, Option, Some, None}
use Rattle.jn_base.specs.declared.tree.Name.{Name}
use Rattle.jn_base.specs.declared.tree.Term.{Term}
use Rattle.jn_base.specs.declared.tree.ViewTerm.{ViewTerm}
use Rattle.jn_base.specs.declared.tree.TypeTerm.{TypeTerm}
use Rattle.jn_base.specs.declared.tree.Op.{Op}
use Rattle.jn_base.specs.declared.tree.Op.TheVariants as op
use Rattle.jn_base.specs.declared.tree.Node.{Node, para-Node}
use Rattle.jn_base.specs.declared.tree.Expr.{Expr, para-Expr}
use Rattle.jn_base.specs.declared.tree.Link.{Link, para-Link}
use Rattle.jn_base.specs.declared.tree.Suffix.{Suffix, para-Suffix}
use Rattle.jn_base.specs.declared.tree.Node.TheOpen.{Node-F, Expr-F, Link-F, Suffix-F}
use Rattle.jn_base.specs.declared.tree.Stmt.{Stmt, para-Stmt}
use Rattle.jn_base.specs.declared.tree.Stmt.TheOpen.{Stmt-F}
use Rattle.jn_sem.specs.Values.{Value, Number, Truth, Null}

-- A node that is still to act. An act that holds code back has the tree of that code.
pub data Act : Type 0 where
  -- a literal, a variable, `this`
  Push : Value → Act
  Read : Name → Act
  This : Act
  -- `!` and unary `-`
  Invert : Act
  Negate : Act
  -- an operator other than `&&` and `||`, with both operands had
  Operate : Op → Act
  -- `&&` (true) or `||` (false) with its left operand had, and its right one
  Decide : Bool → Expr → Act
  Get : (field : Name) → Act
  -- a call, `new` and `super` with n arguments had, and whether the value is kept
  Call : (method : Name) (n : ℕ) (keeps : Bool) → Act
  Make : Term → (n : ℕ) (keeps : Bool) → Act
  Super : Term → (method : Name) (n : ℕ) (keeps : Bool) → Act
  View : ViewTerm → Act
  -- a local, which is path number `path`; an assignment; a field assignment
  Bind : (fixed : Bool) → TypeTerm → (name : Name) (path : ℕ) → Act
  Assign : Name → Act
  Put : (field : Name) → Act
  -- `if` and `while` with the condition had; the number of the next local is `path`
  Choose : (path : ℕ) (one other : List Stmt) → Act
  Repeat : (path : ℕ) → Expr → List Stmt → Act
  -- `return`, with an operand or without
  Return : Bool → Act
  Print : Act
  PrintText : (text : ℕ) → Act
  -- `new Main()`, and the call of `main` on it
  Begin : Act
  Open : Act

-- An act, and how many variables are in scope where it stands: before it acts, those of blocks that have ended are gone.
pub record Todo : Type 0 where
  pub scope : ℕ
  pub act : Act

abbrev pub todo : ℕ → Act → Todo
todo n a = record { scope = n; act = a }

-- ---- expressions

-- What an expression has to do, and then `rest`: whether its value is kept (that of a call statement isn't), and how many
-- variables are in scope.
abbrev pub Doing : Type 0
Doing = (keeps : Bool) (scope : ℕ) (rest : List Todo) → List Todo

-- one after the other
abbrev pub all_do : List (Expr × Doing) → ℕ → List Todo → List Todo
all_do [] n k = k
all_do (e ∷ es) n k = e.1 true n (all_do es n k)

abbrev pub links_do : List (Link × Doing) → ℕ → List Todo → List Todo
links_do [] n k = k
links_do (l ∷ ls) n k = l.1 true n (links_do ls n k)

-- only the last part of a call statement drops its value
abbrev pub suffixes_do : List (Suffix × Doing) → Doing
suffixes_do [] keeps n k = k
suffixes_do (s ∷ []) keeps n k = s.1 keeps n k
suffixes_do (s ∷ (t ∷ ts)) keeps n k = s.1 true n (suffixes_do (t ∷ ts) keeps n k)

abbrev pub node_step : Node-F (Node × Doing) (Expr × Doing) (Link × Doing) (Suffix × Doing) → Doing
node_step (Node-F.Int z) keeps n k = todo n (Push (Number z)) ∷ k
node_step (Node-F.Bool b) keeps n k = todo n (Push (Truth b)) ∷ k
node_step Node-F.Null keeps n k = todo n (Push Null) ∷ k
node_step Node-F.This keeps n k = todo n This ∷ k
node_step (Node-F.Var x) keeps n k = todo n (Read x) ∷ k
-- operands come left to right
node_step (Node-F.New term args) keeps n k = all_do args n (todo n (Make term (length args) keeps) ∷ k)
node_step (Node-F.Super term name args) keeps n k = all_do args n (todo n (Super term name.name (length args) keeps) ∷ k)
node_step (Node-F.Post first suffixes) keeps n k = first.1 true n (suffixes_do suffixes keeps n k)
node_step (Node-F.Not e) keeps n k = e.1 true n (todo n Invert ∷ k)
node_step (Node-F.Neg e) keeps n k = e.1 true n (todo n Negate ∷ k)
node_step (Node-F.View view e) keeps n k = e.1 true n (todo n (View view) ∷ k)
-- the left operand of a later operator of a chain is the value so far
node_step (Node-F.Chain level first links) keeps n k = first.1 true n (links_do links n k)

abbrev pub expr_step : Expr-F (Node × Doing) (Expr × Doing) (Link × Doing) (Suffix × Doing) → Doing
expr_step e = e.node.1

-- `&&` and `||` act after the left operand and before the right one
abbrev pub link_at : Op → Expr × Doing → Doing
link_at op.And right keeps n k = todo n (Decide true right.0) ∷ k
link_at op.Or right keeps n k = todo n (Decide false right.0) ∷ k
link_at o right keeps n k = right.1 true n (todo n (Operate o) ∷ k)

abbrev pub link_step : Link-F (Node × Doing) (Expr × Doing) (Link × Doing) (Suffix × Doing) → Doing
link_step l = link_at l.op l.right

abbrev pub suffix_at : Name → Option (List (Expr × Doing)) → Doing
suffix_at name None keeps n k = todo n (Get name) ∷ k
suffix_at name (Some args) keeps n k = all_do args n (todo n (Call name (length args) keeps) ∷ k)

abbrev pub suffix_step : Suffix-F (Node × Doing) (Expr × Doing) (Link × Doing) (Suffix × Doing) → Doing
suffix_step s = suffix_at s.name.name s.args

abbrev pub node_does : Node → Doing
node_does = para-Node Doing Doing Doing Doing node_step expr_step link_step suffix_step

abbrev pub expr_does : Expr → Doing
expr_does = para-Expr Doing Doing Doing Doing node_step expr_step link_step suffix_step

abbrev pub link_does : Link → Doing
link_does = para-Link Doing Doing Doing Doing node_step expr_step link_step suffix_step

abbrev pub suffix_does : Suffix → Doing
suffix_does = para-Suffix Doing Doing Doing Doing node_step expr_step link_step suffix_step

-- what an expression has to do, with n variables in scope, and then k
abbrev pub acts : ℕ → Expr → List Todo → List Todo
acts n e k = expr_does e true n k

-- and a call statement, whose value is dropped
abbrev pub call_acts : ℕ → Expr → List Todo → List Todo
call_acts n e k = expr_does e false n k

-- Examples: `a + b * c` has to read a, b and c, and then to multiply and to add. `a && b && c` has to read a and to decide
-- twice: what is held back at the first is b, at the second c.

-- ---- statements

-- What a statement has to do, with `scope` variables in scope and `path` the number of the next local, and then `rest`; how
-- many variables are in scope behind it, and the number of the next local. The locals of a body are numbered in source
-- order, those of inner blocks too.
pub record InBody : Type 0 where
  pub scope_after : ℕ → ℕ
  pub path_after : ℕ → ℕ
  pub does : (scope path : ℕ) (rest : List Todo) → List Todo

-- Blocks are free: their statements are done one after the other.
abbrev pub block_does : List (Stmt × InBody) → (scope path : ℕ) (rest : List Todo) → List Todo
block_does [] n path k = k
block_does (s ∷ ss) n path k = s.1.does n path (block_does ss (s.1.scope_after n) (s.1.path_after path) k)

abbrev pub block_after : List (Stmt × InBody) → ℕ → ℕ
block_after [] path = path
block_after (s ∷ ss) path = block_after ss (s.1.path_after path)

abbrev pub tree_of : Stmt × InBody → Stmt
tree_of s = s.0

abbrev pub trees : List (Stmt × InBody) → List Stmt
trees ss = map tree_of ss

abbrev pub as_it_was : ℕ → ℕ
as_it_was n = n

-- one that brings no variable into scope and has no local
abbrev pub simple : ((scope : ℕ) (rest : List Todo) → List Todo) → InBody
simple does = record { scope_after = as_it_was; path_after = as_it_was; does = λ n path k. does n k }

-- one with blocks, which bring no variable into scope behind it
abbrev pub with_blocks : (path_after : ℕ → ℕ) → ((scope path : ℕ) (rest : List Todo) → List Todo) → InBody
with_blocks after does = record { scope_after = as_it_was; path_after = after; does = does }

abbrev pub return_does : Option Expr → ℕ → List Todo → List Todo
return_does None n k = todo n (Return false) ∷ k
return_does (Some e) n k = acts n e (todo n (Return true) ∷ k)

abbrev pub stmt_step : Stmt-F (Stmt × InBody) → InBody
stmt_step (Stmt-F.Block body) = with_blocks (block_after body) (block_does body)
stmt_step (Stmt-F.Local fixed ty name e) = record {
  scope_after = suc;
  path_after = suc;
  does = λ n path k. acts n e (todo n (Bind fixed ty name.name path) ∷ k);
}
stmt_step (Stmt-F.Assign name e) = simple (λ n k. acts n e (todo n (Assign name.name) ∷ k))
stmt_step (Stmt-F.Set of name e) = simple (λ n k. acts n of (acts n e (todo n (Put name.name) ∷ k)))
stmt_step (Stmt-F.Do e) = simple (λ n k. call_acts n e k)
stmt_step (Stmt-F.If e body other at) = with_blocks (λ path. block_after other (block_after body path))
    (λ n path k. acts n e (todo n (Choose path (trees body) (trees other)) ∷ k))
stmt_step (Stmt-F.While e body at) = with_blocks (block_after body) (λ n path k. acts n e (todo n (Repeat path e (trees body)) ∷ k))
stmt_step (Stmt-F.Return e at) = simple (return_does e)
stmt_step (Stmt-F.Print e at) = simple (λ n k. acts n e (todo n Print ∷ k))
stmt_step (Stmt-F.PrintText text at) = simple (λ n k. todo n (PrintText text) ∷ k)

abbrev pub in_body : Stmt → InBody
in_body = para-Stmt InBody stmt_step

-- each statement with what it has to do
abbrev pub with_work : Stmt → Stmt × InBody
with_work s = (s, in_body s)

-- what the statements have to do, and then k
abbrev pub stmts_acts : (scope path : ℕ) → List Stmt → List Todo → List Todo
stmts_acts n path ss k = block_does (map with_work ss) n path k

-- the number of the next local behind them
abbrev pub path_behind : List Stmt → ℕ → ℕ
path_behind ss path = block_after (map with_work ss) path

-- Example: `{ int x = 1; } print(2);` has to push 1, to bind x, to push 2 and to print. The first two acts have
-- n variables in scope, and so have the last two: x is gone before 2 is pushed.
