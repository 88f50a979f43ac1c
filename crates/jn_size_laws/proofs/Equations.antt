-- The size of each form.
use Rattle.std.proofs.Common.{◌≡◌, ℕ, ◌+◌, ℤ, Bool, List, map, refl, ap, ◌∙◌, Option, Some, None}
use Rattle.jn_base.specs.declared.tree.Name.{Name}
use Rattle.jn_base.specs.declared.tree.Named.{Named}
use Rattle.jn_base.specs.declared.tree.Place.{Place}
use Rattle.jn_base.specs.declared.tree.Term.{Term}
use Rattle.jn_base.specs.declared.tree.ViewTerm.{ViewTerm}
use Rattle.jn_base.specs.declared.tree.TypeTerm.{TypeTerm}
use Rattle.jn_base.specs.declared.tree.Level.{Level}
use Rattle.jn_base.specs.declared.tree.Expr.{Expr}
use Rattle.jn_base.specs.declared.tree.Link.{Link}
use Rattle.jn_base.specs.declared.tree.Suffix.{Suffix, out-Suffix}
use Rattle.jn_base.specs.declared.tree.Node.{Node, out-Node}
use Rattle.jn_base.specs.declared.tree.Node.TheOpen.{Node-F}
use Rattle.jn_base.specs.declared.tree.Node.TheFolds.{map-Node, map-Suffix, fold_out-Node, fold_out-Expr, fold_out-Link, fold_out-Suffix, fold-roll-Suffix}
use Rattle.jn_base.specs.declared.tree.Node.TheVariants as node
use Rattle.jn_base.specs.declared.tree.Node.TheVariants.{outs-Int, outs-Bool, outs-Null, outs-This, outs-Var, outs-New, outs-Super, outs-Post, outs-Not, outs-Neg, outs-View, outs-Chain}
use Rattle.jn_base.specs.declared.tree.Stmt.{Stmt, out-Stmt}
use Rattle.jn_base.specs.declared.tree.Stmt.TheOpen.{Stmt-F}
use Rattle.jn_base.specs.declared.tree.Stmt.TheFolds.{map-Stmt, fold_out-Stmt}
use Rattle.jn_base.specs.declared.tree.Stmt.TheVariants as stmt
use Rattle.jn_base.specs.declared.tree.Stmt.TheVariants.{outs-Block, outs-Local, outs-Assign, outs-Set, outs-Do, outs-If, outs-While, outs-Return, outs-Print, outs-PrintText}
use Rattle.jn_base.specs.Parts.{expr, suffix, named}
use Rattle.jn_size_laws.specs.Sizes.{total, class_size, node_step, expr_step, link_step, suffix_step, node_size, expr_size, link_size, suffix_size, value_size, stmt_step, stmt_size, stmts_size}

node_from : (n : Node) (f : Node-F Node Expr Link Suffix) → out-Node n ≡ f
    → node_size n ≡ node_step (map-Node _ _ _ _ _ _ _ _ node_size expr_size link_size suffix_size f)
unfolding node_size expr_size link_size suffix_size
node_from n f e =
    fold_out-Node ℕ ℕ ℕ ℕ node_step expr_step link_step suffix_step n
    ∙ ap (λ (x : Node-F Node Expr Link Suffix). node_step
    (map-Node _ _ _ _ _ _ _ _ node_size expr_size link_size suffix_size x)) e

of_expr : (pl : Place) (n : Node) → expr_size (expr pl n) ≡ node_size n
unfolding node_size expr_size
of_expr pl n = fold_out-Expr ℕ ℕ ℕ ℕ node_step expr_step link_step suffix_step (expr pl n)

pub at_number : (pl : Place) (k : ℤ) → expr_size (expr pl (node.Int k)) ≡ 1
at_number pl k = of_expr pl (node.Int k) ∙ node_from (node.Int k) _ (outs-Int k)

pub at_truth : (pl : Place) (b : Bool) → expr_size (expr pl (node.Bool b)) ≡ 1
at_truth pl b = of_expr pl (node.Bool b) ∙ node_from (node.Bool b) _ (outs-Bool b)

pub at_null : (pl : Place) → expr_size (expr pl node.Null) ≡ 1
at_null pl = of_expr pl node.Null ∙ node_from node.Null _ outs-Null

pub at_this : (pl : Place) → expr_size (expr pl node.This) ≡ 1
at_this pl = of_expr pl node.This ∙ node_from node.This _ outs-This

pub at_variable : (pl : Place) (x : Name) → expr_size (expr pl (node.Var x)) ≡ 1
at_variable pl x = of_expr pl (node.Var x) ∙ node_from (node.Var x) _ (outs-Var x)

pub at_new : (pl : Place) (t : Term) (es : List Expr) →
    expr_size (expr pl (node.New t es)) ≡ total (map expr_size es) + (class_size t + 3)
at_new pl t es = of_expr pl (node.New t es) ∙ node_from (node.New t es) _ (outs-New t es)

pub at_super : (pl : Place) (t : Term) (x : Named) (es : List Expr) →
    expr_size (expr pl (node.Super t x es)) ≡ total (map expr_size es) + 6
at_super pl t x es = of_expr pl (node.Super t x es) ∙ node_from (node.Super t x es) _ (outs-Super t x es)

pub at_post : (pl : Place) (e : Expr) (ss : List Suffix) →
    expr_size (expr pl (node.Post e ss)) ≡ expr_size e + total (map suffix_size ss)
at_post pl e ss = of_expr pl (node.Post e ss) ∙ node_from (node.Post e ss) _ (outs-Post e ss)

pub at_inverse : (pl : Place) (e : Expr) → expr_size (expr pl (node.Not e)) ≡ expr_size e + 1
at_inverse pl e = of_expr pl (node.Not e) ∙ node_from (node.Not e) _ (outs-Not e)

pub at_negative : (pl : Place) (e : Expr) → expr_size (expr pl (node.Neg e)) ≡ expr_size e + 1
at_negative pl e = of_expr pl (node.Neg e) ∙ node_from (node.Neg e) _ (outs-Neg e)

pub at_view : (pl : Place) (v : ViewTerm) (e : Expr) →
    expr_size (expr pl (node.View v e)) ≡ expr_size e + (class_size v.term + 1)
at_view pl v e = of_expr pl (node.View v e) ∙ node_from (node.View v e) _ (outs-View v e)

pub at_chain : (pl : Place) (l : Level) (e : Expr) (ls : List Link) →
    expr_size (expr pl (node.Chain l e ls)) ≡ expr_size e + total (map link_size ls)
at_chain pl l e ls = of_expr pl (node.Chain l e ls) ∙ node_from (node.Chain l e ls) _ (outs-Chain l e ls)

pub at_link : (l : Link) → link_size l ≡ expr_size l.right + 3
unfolding expr_size link_size
at_link l = fold_out-Link ℕ ℕ ℕ ℕ node_step expr_step link_step suffix_step l

-- a field has GET, a call its arguments, CALL and POP
abbrev pub part_size : Option (List Expr) → ℕ
part_size None = 1
part_size (Some es) = total (map expr_size es) + 2

suffix_args : (x : Named) (es : Option (List Expr)) →
    suffix_step (map-Suffix Node Expr Link Suffix ℕ ℕ ℕ ℕ node_size expr_size link_size suffix_size
    (record { name = x; args = es })) ≡ part_size es
suffix_args x None = refl
suffix_args x (Some es) = refl

pub at_suffix : (s : Suffix) → suffix_size s ≡ part_size (out-Suffix s).args
unfolding node_size expr_size link_size suffix_size
at_suffix s =
    fold_out-Suffix ℕ ℕ ℕ ℕ node_step expr_step link_step suffix_step s
    ∙ suffix_args (out-Suffix s).name (out-Suffix s).args

pub of_suffix : (x : Name) (p : Place) (es : Option (List Expr)) → suffix_size (suffix x p es) ≡ part_size es
unfolding node_size expr_size link_size suffix_size
of_suffix x p es =
    fold-roll-Suffix ℕ ℕ ℕ ℕ node_step expr_step link_step suffix_step (record { name = named x p; args = es })
    ∙ suffix_args (named x p) es

-- ---- statements

stmt_from : (s : Stmt) (f : Stmt-F Stmt) → out-Stmt s ≡ f → stmt_size s ≡ stmt_step (map-Stmt Stmt ℕ stmt_size f)
unfolding stmt_size
stmt_from s f e =
    fold_out-Stmt ℕ stmt_step s ∙ ap (λ (x : Stmt-F Stmt). stmt_step (map-Stmt Stmt ℕ stmt_size x)) e

pub at_block : (body : List Stmt) → stmt_size (stmt.Block body) ≡ stmts_size body
at_block body = stmt_from (stmt.Block body) _ (outs-Block body)

pub at_local : (fixed : Bool) (ty : TypeTerm) (x : Named) (e : Expr) →
    stmt_size (stmt.Local fixed ty x e) ≡ expr_size e + 2
at_local fixed ty x e = stmt_from (stmt.Local fixed ty x e) _ (outs-Local fixed ty x e)

pub at_assign : (x : Named) (e : Expr) → stmt_size (stmt.Assign x e) ≡ expr_size e + 1
at_assign x e = stmt_from (stmt.Assign x e) _ (outs-Assign x e)

pub at_set : (of : Expr) (x : Named) (e : Expr) → stmt_size (stmt.Set of x e) ≡ expr_size of + (expr_size e + 1)
at_set of x e = stmt_from (stmt.Set of x e) _ (outs-Set of x e)

pub at_do : (e : Expr) → stmt_size (stmt.Do e) ≡ expr_size e
at_do e = stmt_from (stmt.Do e) _ (outs-Do e)

pub at_if : (e : Expr) (body other : List Stmt) (at : Place) →
    stmt_size (stmt.If e body other at) ≡ expr_size e + (stmts_size body + (stmts_size other + 2))
at_if e body other at = stmt_from (stmt.If e body other at) _ (outs-If e body other at)

pub at_while : (e : Expr) (body : List Stmt) (at : Place) →
    stmt_size (stmt.While e body at) ≡ expr_size e + (stmts_size body + 2)
at_while e body at = stmt_from (stmt.While e body at) _ (outs-While e body at)

pub at_return : (e : Option Expr) (at : Place) → stmt_size (stmt.Return e at) ≡ value_size e + 1
at_return e at = stmt_from (stmt.Return e at) _ (outs-Return e at)

pub at_print : (e : Expr) (at : Place) → stmt_size (stmt.Print e at) ≡ expr_size e + 1
at_print e at = stmt_from (stmt.Print e at) _ (outs-Print e at)

pub at_text : (n : ℕ) (at : Place) → stmt_size (stmt.PrintText n at) ≡ 1
at_text n at = stmt_from (stmt.PrintText n at) _ (outs-PrintText n at)
