-- What each form needs.
use Rattle.std.specs.Prelude.{max}
use Rattle.std.proofs.Common.{◌≡◌, ℕ, suc, ◌+◌, ℤ, Bool, List, length, map, refl, ap, ◌∙◌, Option, Some, None}
use Rattle.jn_base.specs.declared.tree.Name.{Name}
use Rattle.jn_base.specs.declared.tree.Named.{Named}
use Rattle.jn_base.specs.declared.tree.Place.{Place}
use Rattle.jn_base.specs.declared.tree.Term.{Term}
use Rattle.jn_base.specs.declared.tree.ViewTerm.{ViewTerm}
use Rattle.jn_base.specs.declared.tree.TypeTerm.{TypeTerm}
use Rattle.jn_base.specs.declared.tree.Level.{Level}
use Rattle.jn_base.specs.declared.tree.Expr.{Expr}
use Rattle.jn_base.specs.declared.tree.Link.{Link}
use Rattle.jn_base.specs.declared.tree.Suffix.{Suffix, out-Suffix}
use Rattle.jn_base.specs.declared.tree.Node.{Node, out-Node}
use Rattle.jn_base.specs.declared.tree.Node.TheOpen.{Node-F}
use Rattle.jn_base.specs.declared.tree.Node.TheFolds.{map-Node, map-Suffix, fold_out-Node, fold_out-Expr, fold_out-Link, fold_out-Suffix, fold-roll-Suffix}
use Rattle.jn_base.specs.declared.tree.Node.TheVariants as node
use Rattle.jn_base.specs.declared.tree.Node.TheVariants.{outs-Int, outs-Bool, outs-Null, outs-This, outs-Var, outs-New, outs-Super, outs-Post, outs-Not, outs-Neg, outs-View, outs-Chain}
use Rattle.jn_base.specs.declared.tree.Stmt.{Stmt, out-Stmt}
use Rattle.jn_base.specs.declared.tree.Stmt.TheOpen.{Stmt-F}
use Rattle.jn_base.specs.declared.tree.Stmt.TheFolds.{map-Stmt, fold_out-Stmt}
use Rattle.jn_base.specs.declared.tree.Stmt.TheVariants as stmt
use Rattle.jn_base.specs.declared.tree.Stmt.TheVariants.{outs-Block, outs-Local, outs-Assign, outs-Set, outs-Do, outs-If, outs-While, outs-Return, outs-Print, outs-PrintText}
use Rattle.jn_base.specs.Parts.{expr, suffix, named}
use Rattle.jn_size_laws.specs.Operands.{Needs, needs, most, highest, stacked, super_holds, link_holds, also, node_step, expr_step, link_step, suffix_step, node_needs, expr_needs, link_needs, suffix_needs, value_needs, stmt_step, stmt_needs, stmts_need}

node_from : (n : Node) (f : Node-F Node Expr Link Suffix) → out-Node n ≡ f
    → node_needs n ≡ node_step (map-Node _ _ _ _ _ _ _ _ node_needs expr_needs link_needs suffix_needs f)
unfolding node_needs expr_needs link_needs suffix_needs
node_from n f e =
    fold_out-Node Needs Needs Needs Needs node_step expr_step link_step suffix_step n
    ∙ ap (λ (x : Node-F Node Expr Link Suffix). node_step
    (map-Node _ _ _ _ _ _ _ _ node_needs expr_needs link_needs suffix_needs x)) e

of_expr : (pl : Place) (n : Node) → expr_needs (expr pl n) ≡ node_needs n
unfolding node_needs expr_needs
of_expr pl n = fold_out-Expr Needs Needs Needs Needs node_step expr_step link_step suffix_step (expr pl n)

pub at_number : (pl : Place) (k : ℤ) → expr_needs (expr pl (node.Int k)) ≡ needs 1 0
at_number pl k = of_expr pl (node.Int k) ∙ node_from (node.Int k) _ (outs-Int k)

pub at_truth : (pl : Place) (b : Bool) → expr_needs (expr pl (node.Bool b)) ≡ needs 1 0
at_truth pl b = of_expr pl (node.Bool b) ∙ node_from (node.Bool b) _ (outs-Bool b)

pub at_null : (pl : Place) → expr_needs (expr pl node.Null) ≡ needs 1 0
at_null pl = of_expr pl node.Null ∙ node_from node.Null _ outs-Null

pub at_this : (pl : Place) → expr_needs (expr pl node.This) ≡ needs 1 0
at_this pl = of_expr pl node.This ∙ node_from node.This _ outs-This

pub at_variable : (pl : Place) (x : Name) → expr_needs (expr pl (node.Var x)) ≡ needs 1 0
at_variable pl x = of_expr pl (node.Var x) ∙ node_from (node.Var x) _ (outs-Var x)

pub at_new : (pl : Place) (t : Term) (es : List Expr) →
    expr_needs (expr pl (node.New t es)) ≡
    needs (max (stacked 0 (map expr_needs es)) (length (map expr_needs es) + 1))
    (max (most (map expr_needs es)) (length (map expr_needs es)))
at_new pl t es = of_expr pl (node.New t es) ∙ node_from (node.New t es) _ (outs-New t es)

pub at_super : (pl : Place) (t : Term) (x : Named) (es : List Expr) →
    expr_needs (expr pl (node.Super t x es)) ≡
    needs (super_holds (map expr_needs es)) (max (most (map expr_needs es)) (length (map expr_needs es)))
at_super pl t x es = of_expr pl (node.Super t x es) ∙ node_from (node.Super t x es) _ (outs-Super t x es)

pub at_post : (pl : Place) (e : Expr) (ss : List Suffix) →
    expr_needs (expr pl (node.Post e ss)) ≡
    needs (max (expr_needs e).operands (highest (map suffix_needs ss)))
    (max (expr_needs e).arguments (most (map suffix_needs ss)))
at_post pl e ss = of_expr pl (node.Post e ss) ∙ node_from (node.Post e ss) _ (outs-Post e ss)

pub at_inverse : (pl : Place) (e : Expr) → expr_needs (expr pl (node.Not e)) ≡ expr_needs e
at_inverse pl e = of_expr pl (node.Not e) ∙ node_from (node.Not e) _ (outs-Not e)

pub at_negative : (pl : Place) (e : Expr) → expr_needs (expr pl (node.Neg e)) ≡ expr_needs e
at_negative pl e = of_expr pl (node.Neg e) ∙ node_from (node.Neg e) _ (outs-Neg e)

pub at_view : (pl : Place) (v : ViewTerm) (e : Expr) →
    expr_needs (expr pl (node.View v e)) ≡ needs (max (expr_needs e).operands 2) (expr_needs e).arguments
at_view pl v e = of_expr pl (node.View v e) ∙ node_from (node.View v e) _ (outs-View v e)

pub at_chain : (pl : Place) (l : Level) (e : Expr) (ls : List Link) →
    expr_needs (expr pl (node.Chain l e ls)) ≡
    needs (max (expr_needs e).operands (highest (map link_needs ls)))
    (max (expr_needs e).arguments (most (map link_needs ls)))
at_chain pl l e ls = of_expr pl (node.Chain l e ls) ∙ node_from (node.Chain l e ls) _ (outs-Chain l e ls)

pub at_link : (l : Link) → link_needs l ≡
    needs (link_holds l.op (expr_needs l.right).operands) (expr_needs l.right).arguments
unfolding expr_needs link_needs
at_link l = fold_out-Link Needs Needs Needs Needs node_step expr_step link_step suffix_step l

-- a receiver stands below the arguments
abbrev pub part_needs : Option (List Expr) → Needs
part_needs None = needs 1 0
part_needs (Some es) =
    needs (stacked 1 (map expr_needs es)) (max (most (map expr_needs es)) (length (map expr_needs es)))

suffix_args : (x : Named) (es : Option (List Expr)) →
    suffix_step (map-Suffix Node Expr Link Suffix Needs Needs Needs Needs node_needs expr_needs link_needs suffix_needs
    (record { name = x; args = es })) ≡ part_needs es
suffix_args x None = refl
suffix_args x (Some es) = refl

pub at_suffix : (s : Suffix) → suffix_needs s ≡ part_needs (out-Suffix s).args
unfolding node_needs expr_needs link_needs suffix_needs
at_suffix s =
    fold_out-Suffix Needs Needs Needs Needs node_step expr_step link_step suffix_step s
    ∙ suffix_args (out-Suffix s).name (out-Suffix s).args

pub of_suffix : (x : Name) (p : Place) (es : Option (List Expr)) → suffix_needs (suffix x p es) ≡ part_needs es
unfolding node_needs expr_needs link_needs suffix_needs
of_suffix x p es =
    fold-roll-Suffix Needs Needs Needs Needs node_step expr_step link_step suffix_step (record {
      name = named x p;
      args = es;
    })
    ∙ suffix_args (named x p) es

-- ---- statements

stmt_from : (s : Stmt) (f : Stmt-F Stmt) → out-Stmt s ≡ f → stmt_needs s ≡ stmt_step (map-Stmt Stmt Needs stmt_needs f)
unfolding stmt_needs
stmt_from s f e =
    fold_out-Stmt Needs stmt_step s ∙ ap (λ (x : Stmt-F Stmt). stmt_step (map-Stmt Stmt Needs stmt_needs x)) e

pub at_block : (body : List Stmt) → stmt_needs (stmt.Block body) ≡ stmts_need body
at_block body = stmt_from (stmt.Block body) _ (outs-Block body)

pub at_local : (fixed : Bool) (ty : TypeTerm) (x : Named) (e : Expr) →
    stmt_needs (stmt.Local fixed ty x e) ≡ expr_needs e
at_local fixed ty x e = stmt_from (stmt.Local fixed ty x e) _ (outs-Local fixed ty x e)

pub at_assign : (x : Named) (e : Expr) → stmt_needs (stmt.Assign x e) ≡ expr_needs e
at_assign x e = stmt_from (stmt.Assign x e) _ (outs-Assign x e)

pub at_set : (of : Expr) (x : Named) (e : Expr) → stmt_needs (stmt.Set of x e) ≡
    also (expr_needs of) (needs (suc (expr_needs e).operands) (expr_needs e).arguments)
at_set of x e = stmt_from (stmt.Set of x e) _ (outs-Set of x e)

pub at_do : (e : Expr) → stmt_needs (stmt.Do e) ≡ expr_needs e
at_do e = stmt_from (stmt.Do e) _ (outs-Do e)

pub at_if : (e : Expr) (body other : List Stmt) (at : Place) →
    stmt_needs (stmt.If e body other at) ≡
    also (expr_needs e) (also (stmts_need body) (stmts_need other))
at_if e body other at = stmt_from (stmt.If e body other at) _ (outs-If e body other at)

pub at_while : (e : Expr) (body : List Stmt) (at : Place) →
    stmt_needs (stmt.While e body at) ≡ also (expr_needs e) (stmts_need body)
at_while e body at = stmt_from (stmt.While e body at) _ (outs-While e body at)

pub at_return : (e : Option Expr) (at : Place) → stmt_needs (stmt.Return e at) ≡ value_needs e
at_return e at = stmt_from (stmt.Return e at) _ (outs-Return e at)

pub at_print : (e : Expr) (at : Place) → stmt_needs (stmt.Print e at) ≡ expr_needs e
at_print e at = stmt_from (stmt.Print e at) _ (outs-Print e at)

pub at_text : (n : ℕ) (at : Place) → stmt_needs (stmt.PrintText n at) ≡ needs 0 0
at_text n at = stmt_from (stmt.PrintText n at) _ (outs-PrintText n at)
