-- What a tree mentions, one level deep, and whether it has a form.
use Rattle.std.proofs.Common.{◌≡◌, ℕ, ℤ, Bool, List, [], ◌∷◌, ◌++◌, map, refl, ap, ◌∙◌, Option, Some, None}
use Rattle.jn_base.specs.declared.tree.Name.{Name}
use Rattle.jn_base.specs.declared.tree.Named.{Named}
use Rattle.jn_base.specs.declared.tree.Place.{Place}
use Rattle.jn_base.specs.declared.tree.Term.{Term}
use Rattle.jn_base.specs.declared.tree.ViewTerm.{ViewTerm}
use Rattle.jn_base.specs.declared.tree.TypeTerm.{TypeTerm}
use Rattle.jn_base.specs.declared.tree.Level.{Level}
use Rattle.jn_base.specs.declared.tree.Expr.{Expr}
use Rattle.jn_base.specs.declared.tree.Link.{Link}
use Rattle.jn_base.specs.declared.tree.Suffix.{Suffix, out-Suffix}
use Rattle.jn_base.specs.declared.tree.Node.{Node, out-Node}
use Rattle.jn_base.specs.declared.tree.Node.TheOpen.{Node-F}
use Rattle.jn_base.specs.declared.tree.Node.TheFolds.{map-Node, map-Suffix, fold_out-Node, fold_out-Expr, fold_out-Link, fold_out-Suffix}
use Rattle.jn_base.specs.declared.tree.Node.TheVariants as node
use Rattle.jn_base.specs.declared.tree.Node.TheVariants.{outs-Int, outs-Bool, outs-Null, outs-This, outs-Var, outs-New, outs-Super, outs-Post, outs-Not, outs-Neg, outs-View, outs-Chain}
use Rattle.jn_base.specs.declared.tree.Stmt.{Stmt, out-Stmt}
use Rattle.jn_base.specs.declared.tree.Stmt.TheOpen.{Stmt-F}
use Rattle.jn_base.specs.declared.tree.Stmt.TheFolds.{map-Stmt, fold_out-Stmt}
use Rattle.jn_base.specs.declared.tree.Stmt.TheVariants as stmt
use Rattle.jn_base.specs.declared.tree.Stmt.TheVariants.{outs-Block, outs-Local, outs-Assign, outs-Set, outs-Do, outs-If, outs-While, outs-Return, outs-Print, outs-PrintText}
use Rattle.jn_base.specs.declared.tree.Field.{Field}
use Rattle.jn_base.specs.declared.tree.Method.{Method}
use Rattle.jn_base.specs.declared.tree.Decl.{Decl}
use Rattle.jn_base.specs.declared.tree.Member.{Member, out-Member}
use Rattle.jn_base.specs.declared.tree.Member.TheOpen.{Member-F}
use Rattle.jn_base.specs.declared.tree.Member.TheFolds.{map-Member, fold_out-Member, fold_out-Decl}
use Rattle.jn_base.specs.declared.tree.Member.TheVariants as member
use Rattle.jn_base.specs.declared.tree.Member.TheVariants.{outs-Inner, outs-Slot, outs-Body}
use Rattle.jn_base.specs.Forms.{Mentions, Shared, Adapted, Viewed, Termed, all_of, given, of_type, of_view, of_node, of_expr, of_link, of_suffix, of_stmt, of_field, of_method, of_member, of_decl, node_step, expr_step, link_step, suffix_step, stmt_step, member_step, decl_step}

-- ---- what is mentioned, one level deep

node_from : (n : Node) (f : Node-F Node Expr Link Suffix) → out-Node n ≡ f
    → of_node n ≡ node_step (map-Node _ _ _ _ _ _ _ _ of_node of_expr of_link of_suffix f)
unfolding of_node of_expr of_link of_suffix
node_from n f e =
    fold_out-Node Mentions Mentions Mentions Mentions node_step expr_step link_step suffix_step n
    ∙ ap (λ (x : Node-F Node Expr Link Suffix). node_step (map-Node _ _ _ _ _ _ _ _ of_node of_expr of_link of_suffix x)) e

pub at_number : (k : ℤ) → of_node (node.Int k) ≡ []
at_number k = node_from (node.Int k) _ (outs-Int k)

pub at_truth : (b : Bool) → of_node (node.Bool b) ≡ []
at_truth b = node_from (node.Bool b) _ (outs-Bool b)

pub at_null : of_node node.Null ≡ []
at_null = node_from node.Null _ outs-Null

pub at_this : of_node node.This ≡ []
at_this = node_from node.This _ outs-This

pub at_variable : (x : Name) → of_node (node.Var x) ≡ []
at_variable x = node_from (node.Var x) _ (outs-Var x)

pub at_new : (t : Term) (es : List Expr) → of_node (node.New t es) ≡ Termed t ∷ all_of (map of_expr es)
at_new t es = node_from (node.New t es) _ (outs-New t es)

pub at_super : (t : Term) (x : Named) (es : List Expr) → of_node (node.Super t x es) ≡ Termed t ∷ all_of (map of_expr es)
at_super t x es = node_from (node.Super t x es) _ (outs-Super t x es)

pub at_post : (e : Expr) (ss : List Suffix) → of_node (node.Post e ss) ≡ of_expr e ++ all_of (map of_suffix ss)
at_post e ss = node_from (node.Post e ss) _ (outs-Post e ss)

pub at_inverse : (e : Expr) → of_node (node.Not e) ≡ of_expr e
at_inverse e = node_from (node.Not e) _ (outs-Not e)

pub at_negative : (e : Expr) → of_node (node.Neg e) ≡ of_expr e
at_negative e = node_from (node.Neg e) _ (outs-Neg e)

pub at_view : (v : ViewTerm) (e : Expr) → of_node (node.View v e) ≡ Viewed ∷ (of_view v ++ of_expr e)
at_view v e = node_from (node.View v e) _ (outs-View v e)

pub at_chain : (l : Level) (e : Expr) (ls : List Link) → of_node (node.Chain l e ls) ≡ of_expr e ++ all_of (map of_link ls)
at_chain l e ls = node_from (node.Chain l e ls) _ (outs-Chain l e ls)

pub at_expr : (e : Expr) → of_expr e ≡ of_node e.node
unfolding of_node of_expr
at_expr e = fold_out-Expr Mentions Mentions Mentions Mentions node_step expr_step link_step suffix_step e

pub at_link : (l : Link) → of_link l ≡ of_expr l.right
unfolding of_expr of_link
at_link l = fold_out-Link Mentions Mentions Mentions Mentions node_step expr_step link_step suffix_step l

-- the arguments of a suffix, where there are any
abbrev pub of_args : Option (List Expr) → Mentions
of_args None = []
of_args (Some es) = all_of (map of_expr es)

suffix_args : (x : Named) (es : Option (List Expr))
    → suffix_step (map-Suffix Node Expr Link Suffix Mentions Mentions Mentions Mentions of_node of_expr of_link of_suffix record { name = x; args = es }) ≡ of_args es
suffix_args x None = refl
suffix_args x (Some es) = refl

pub at_suffix : (s : Suffix) → of_suffix s ≡ of_args (out-Suffix s).args
unfolding of_node of_expr of_link of_suffix
at_suffix s =
    fold_out-Suffix Mentions Mentions Mentions Mentions node_step expr_step link_step suffix_step s
    ∙ suffix_args (out-Suffix s).name (out-Suffix s).args

stmt_from : (s : Stmt) (f : Stmt-F Stmt) → out-Stmt s ≡ f → of_stmt s ≡ stmt_step (map-Stmt Stmt Mentions of_stmt f)
unfolding of_stmt
stmt_from s f e =
    fold_out-Stmt Mentions stmt_step s ∙ ap (λ (x : Stmt-F Stmt). stmt_step (map-Stmt Stmt Mentions of_stmt x)) e

pub at_block : (body : List Stmt) → of_stmt (stmt.Block body) ≡ all_of (map of_stmt body)
at_block body = stmt_from (stmt.Block body) _ (outs-Block body)

pub at_local : (fixed : Bool) (ty : TypeTerm) (x : Named) (e : Expr) → of_stmt (stmt.Local fixed ty x e) ≡ of_type ty ++ of_expr e
at_local fixed ty x e = stmt_from (stmt.Local fixed ty x e) _ (outs-Local fixed ty x e)

pub at_assign : (x : Named) (e : Expr) → of_stmt (stmt.Assign x e) ≡ of_expr e
at_assign x e = stmt_from (stmt.Assign x e) _ (outs-Assign x e)

pub at_set : (of : Expr) (x : Named) (e : Expr) → of_stmt (stmt.Set of x e) ≡ of_expr of ++ of_expr e
at_set of x e = stmt_from (stmt.Set of x e) _ (outs-Set of x e)

pub at_do : (e : Expr) → of_stmt (stmt.Do e) ≡ of_expr e
at_do e = stmt_from (stmt.Do e) _ (outs-Do e)

pub at_if : (e : Expr) (body other : List Stmt) (at : Place)
    → of_stmt (stmt.If e body other at) ≡ of_expr e ++ (all_of (map of_stmt body) ++ all_of (map of_stmt other))
at_if e body other at = stmt_from (stmt.If e body other at) _ (outs-If e body other at)

pub at_while : (e : Expr) (body : List Stmt) (at : Place) → of_stmt (stmt.While e body at) ≡ of_expr e ++ all_of (map of_stmt body)
at_while e body at = stmt_from (stmt.While e body at) _ (outs-While e body at)

pub at_return : (e : Option Expr) (at : Place) → of_stmt (stmt.Return e at) ≡ given of_expr e
at_return e at = stmt_from (stmt.Return e at) _ (outs-Return e at)

pub at_print : (e : Expr) (at : Place) → of_stmt (stmt.Print e at) ≡ of_expr e
at_print e at = stmt_from (stmt.Print e at) _ (outs-Print e at)

pub at_text : (n : ℕ) (at : Place) → of_stmt (stmt.PrintText n at) ≡ []
at_text n at = stmt_from (stmt.PrintText n at) _ (outs-PrintText n at)

member_from : (m : Member) (f : Member-F Member Decl) → out-Member m ≡ f
    → of_member m ≡ member_step (map-Member Member Decl Mentions Mentions of_member of_decl f)
unfolding of_member of_decl
member_from m f e =
    fold_out-Member Mentions Mentions member_step decl_step m
    ∙ ap (λ (x : Member-F Member Decl). member_step (map-Member Member Decl Mentions Mentions of_member of_decl x)) e

pub at_inner : (d : Decl) → of_member (member.Inner d) ≡ of_decl d
at_inner d = member_from (member.Inner d) _ (outs-Inner d)

pub at_slot : (f : Field) → of_member (member.Slot f) ≡ of_field f
at_slot f = member_from (member.Slot f) _ (outs-Slot f)

pub at_body : (m : Method) → of_member (member.Body m) ≡ of_method m
at_body m = member_from (member.Body m) _ (outs-Body m)

pub at_decl : (d : Decl) → of_decl d ≡ map Shared d.shares ++ (map Adapted d.adapts ++ all_of (map of_member d.members))
unfolding of_member of_decl
at_decl d = fold_out-Decl Mentions Mentions member_step decl_step d
