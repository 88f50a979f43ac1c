-- What each form of expression and statement has to do, form by form. These equations say all of it.
use Rattle.std.specs.Prelude.{◌≡◌, ℕ, suc, ℤ, List, [], ◌∷◌, length, Bool, true, false, Option, Some, None}
use Rattle.jn_base.specs.declared.tree.Name.{Name}
use Rattle.jn_base.specs.declared.tree.Named.{Named}
use Rattle.jn_base.specs.declared.tree.Place.{Place}
use Rattle.jn_base.specs.declared.tree.Term.{Term}
use Rattle.jn_base.specs.declared.tree.ViewTerm.{ViewTerm}
use Rattle.jn_base.specs.declared.tree.TypeTerm.{TypeTerm}
use Rattle.jn_base.specs.declared.tree.Level.{Level}
use Rattle.jn_base.specs.declared.tree.Op.{Op}
use Rattle.jn_base.specs.declared.tree.Op.TheVariants as op
use Rattle.jn_base.specs.declared.tree.Node.TheVariants as node
use Rattle.jn_base.specs.declared.tree.Expr.{Expr}
use Rattle.jn_base.specs.declared.tree.Link.{Link}
use Rattle.jn_base.specs.declared.tree.Suffix.{Suffix, out-Suffix}
use Rattle.jn_base.specs.declared.tree.Stmt.{Stmt}
use Rattle.jn_base.specs.declared.tree.Stmt.TheVariants as stmt
use Rattle.jn_base.specs.Parts.{expr}
use Rattle.jn_sem.specs.Values.{Number, Truth, Null}
use Rattle.jn_sem.specs.Acts.{Push, Read, This, Invert, Negate, Operate, Decide, Get, Call, Make, Super, View, Bind, Assign, Put, Choose, Repeat, Return, Print, PrintText, Todo, todo, expr_does, acts, call_acts, stmts_acts, path_behind}

-- ---- expressions

-- arguments from left to right
abbrev pub args_acts : ℕ → List Expr → List Todo → List Todo
args_acts n [] k = k
args_acts n (e ∷ es) k = acts n e (args_acts n es k)

-- `&&` and `||` act before their right operand, and hold it back; each other operator acts after it
abbrev pub link_acts : Op → Expr → ℕ → List Todo → List Todo
link_acts op.And e n k = todo n (Decide true e) ∷ k
link_acts op.Or e n k = todo n (Decide false e) ∷ k
link_acts o e n k = acts n e (todo n (Operate o) ∷ k)

-- the operators of a chain, one after the other
abbrev pub links_acts : ℕ → List Link → List Todo → List Todo
links_acts n [] k = k
links_acts n (l ∷ ls) k = link_acts l.op l.right n (links_acts n ls k)

-- a field; or a call, behind its arguments
abbrev pub part_acts : Name → Option (List Expr) → (keeps : Bool) → ℕ → List Todo → List Todo
part_acts x None keeps n k = todo n (Get x) ∷ k
part_acts x (Some es) keeps n k = args_acts n es (todo n (Call x (length es) keeps) ∷ k)

abbrev pub suffix_acts : Suffix → (keeps : Bool) → ℕ → List Todo → List Todo
suffix_acts s = part_acts (out-Suffix s).name.name (out-Suffix s).args

-- the parts behind an expression; the last one's value is kept or not
abbrev pub parts_acts : List Suffix → (keeps : Bool) → ℕ → List Todo → List Todo
parts_acts [] keeps n k = k
parts_acts (s ∷ []) keeps n k = suffix_acts s keeps n k
parts_acts (s ∷ (t ∷ ts)) keeps n k = suffix_acts s true n (parts_acts (t ∷ ts) keeps n k)

-- What an expression has to do, at any place: whether its value is kept, with n variables in scope, and then k.
pub record ExprActs (at : Place) (keeps : Bool) (n : ℕ) (k : List Todo) : Type 0 where
  pub number : (z : ℤ) → expr_does (expr at (node.Int z)) keeps n k ≡ todo n (Push (Number z)) ∷ k
  pub truth : (b : Bool) → expr_does (expr at (node.Bool b)) keeps n k ≡ todo n (Push (Truth b)) ∷ k
  pub null : expr_does (expr at node.Null) keeps n k ≡ todo n (Push Null) ∷ k
  pub this : expr_does (expr at node.This) keeps n k ≡ todo n This ∷ k
  pub var : (x : Name) → expr_does (expr at (node.Var x)) keeps n k ≡ todo n (Read x) ∷ k
  pub new : (t : Term) (es : List Expr) → expr_does (expr at (node.New t es)) keeps n k ≡ args_acts n es (todo n (Make t (length es) keeps) ∷ k)
  pub super : (t : Term) (m : Named) (es : List Expr)
      → expr_does (expr at (node.Super t m es)) keeps n k ≡ args_acts n es (todo n (Super t m.name (length es) keeps) ∷ k)
  pub post : (e : Expr) (ss : List Suffix) → expr_does (expr at (node.Post e ss)) keeps n k ≡ acts n e (parts_acts ss keeps n k)
  pub invert : (e : Expr) → expr_does (expr at (node.Not e)) keeps n k ≡ acts n e (todo n Invert ∷ k)
  pub negate : (e : Expr) → expr_does (expr at (node.Neg e)) keeps n k ≡ acts n e (todo n Negate ∷ k)
  pub view : (v : ViewTerm) (e : Expr) → expr_does (expr at (node.View v e)) keeps n k ≡ acts n e (todo n (View v) ∷ k)
  pub chain : (level : Level) (e : Expr) (ls : List Link)
      → expr_does (expr at (node.Chain level e ls)) keeps n k ≡ acts n e (links_acts n ls k)

-- ---- statements

-- What a statement and those behind it have to do, with n variables in scope and `path` the number of the next local.
pub record StmtActs (n path : ℕ) (ss : List Stmt) (k : List Todo) : Type 0 where
  pub none : stmts_acts n path [] k ≡ k
  -- a block is free; its variables are gone behind it, and their numbers stay taken
  pub block : (body : List Stmt)
      → stmts_acts n path (stmt.Block body ∷ ss) k ≡ stmts_acts n path body (stmts_acts n (path_behind body path) ss k)
  -- a local is one more variable in scope
  pub local : (fixed : Bool) (t : TypeTerm) (x : Named) (e : Expr)
      → stmts_acts n path (stmt.Local fixed t x e ∷ ss) k ≡ acts n e (todo n (Bind fixed t x.name path) ∷ stmts_acts (suc n) (suc path) ss k)
  pub assign : (x : Named) (e : Expr) → stmts_acts n path (stmt.Assign x e ∷ ss) k ≡ acts n e (todo n (Assign x.name) ∷ stmts_acts n path ss k)
  -- the receiver comes before the value
  pub set : (r : Expr) (x : Named) (e : Expr)
      → stmts_acts n path (stmt.Set r x e ∷ ss) k ≡ acts n r (acts n e (todo n (Put x.name) ∷ stmts_acts n path ss k))
  pub call : (e : Expr) → stmts_acts n path (stmt.Do e ∷ ss) k ≡ call_acts n e (stmts_acts n path ss k)
  pub choice : (e : Expr) (one other : List Stmt) (at : Place)
      → stmts_acts n path (stmt.If e one other at ∷ ss) k
      ≡ acts n e (todo n (Choose path one other) ∷ stmts_acts n (path_behind other (path_behind one path)) ss k)
  pub loop : (e : Expr) (body : List Stmt) (at : Place)
      → stmts_acts n path (stmt.While e body at ∷ ss) k ≡ acts n e (todo n (Repeat path e body) ∷ stmts_acts n (path_behind body path) ss k)
  pub returns : (e : Expr) (at : Place) → stmts_acts n path (stmt.Return (Some e) at ∷ ss) k ≡ acts n e (todo n (Return true) ∷ stmts_acts n path ss k)
  pub returns_none : (at : Place) → stmts_acts n path (stmt.Return None at ∷ ss) k ≡ todo n (Return false) ∷ stmts_acts n path ss k
  pub prints : (e : Expr) (at : Place) → stmts_acts n path (stmt.Print e at ∷ ss) k ≡ acts n e (todo n Print ∷ stmts_acts n path ss k)
  pub prints_text : (t : ℕ) (at : Place) → stmts_acts n path (stmt.PrintText t at ∷ ss) k ≡ todo n (PrintText t) ∷ stmts_acts n path ss k

-- These equations say all of what a body has to do.
pub record ActsAre : Type 0 where
  pub exprs : (at : Place) (keeps : Bool) (n : ℕ) (k : List Todo) → ExprActs at keeps n k
  pub stmts : (n path : ℕ) (ss : List Stmt) (k : List Todo) → StmtActs n path ss k
