-- The equations of trees without their places, one level deep: what is the same but for places makes the same.
use Rattle.std.proofs.Common.{◌≡◌, ℕ, Bool, List, map, ap, ap₂, sym, ◌∙◌, Option, Some, None}
use Rattle.jn_base.specs.declared.tree.Name.{Name}
use Rattle.jn_base.specs.declared.tree.Place.{Place}
use Rattle.jn_base.specs.declared.tree.Named.{Named}
use Rattle.jn_base.specs.declared.tree.Term.{Term}
use Rattle.jn_base.specs.declared.tree.ViewTerm.{ViewTerm}
use Rattle.jn_base.specs.declared.tree.TypeTerm.{TypeTerm}
use Rattle.jn_base.specs.declared.tree.Level.{Level}
use Rattle.jn_base.specs.declared.tree.Op.{Op}
use Rattle.jn_base.specs.declared.tree.Expr.{Expr}
use Rattle.jn_base.specs.declared.tree.Link.{Link}
use Rattle.jn_base.specs.declared.tree.Suffix.{Suffix}
use Rattle.jn_base.specs.declared.tree.Node.{Node, out-Node}
use Rattle.jn_base.specs.declared.tree.Node.TheOpen.{Node-F}
use Rattle.jn_base.specs.declared.tree.Node.TheFolds.{map-Node, fold_out-Node, fold-roll-Expr, fold-roll-Link, fold-roll-Suffix}
use Rattle.jn_base.specs.declared.tree.Node.TheVariants as node
use Rattle.jn_base.specs.declared.tree.Node.TheVariants.{outs-New, outs-Super, outs-Post, outs-Not, outs-Neg, outs-View, outs-Chain}
use Rattle.jn_base.specs.declared.tree.Stmt.{Stmt, out-Stmt}
use Rattle.jn_base.specs.declared.tree.Stmt.TheOpen.{Stmt-F}
use Rattle.jn_base.specs.declared.tree.Stmt.TheFolds.{map-Stmt, fold_out-Stmt}
use Rattle.jn_base.specs.declared.tree.Stmt.TheVariants as stmt
use Rattle.jn_base.specs.declared.tree.Stmt.TheVariants.{outs-Block, outs-Local, outs-Assign, outs-Set, outs-Do, outs-If, outs-While, outs-Return, outs-Print, outs-PrintText}
use Rattle.jn_base.specs.declared.tree.Kind.{Kind}
use Rattle.jn_base.specs.declared.tree.Field.{Field}
use Rattle.jn_base.specs.declared.tree.Method.{Method}
use Rattle.jn_base.specs.declared.tree.Decl.{Decl}
use Rattle.jn_base.specs.declared.tree.Member.{Member, out-Member}
use Rattle.jn_base.specs.declared.tree.Member.TheOpen.{Member-F}
use Rattle.jn_base.specs.declared.tree.Member.TheFolds.{map-Member, fold_out-Member, fold-roll-Decl}
use Rattle.jn_base.specs.declared.tree.Member.TheVariants as member
use Rattle.jn_base.specs.declared.tree.Member.TheVariants.{outs-Inner, outs-Slot, outs-Body}
use Rattle.jn_base.specs.Parts.{named, expr, suffix, link}
use Rattle.jn_base.specs.GrammarDecl.{decl}
use Rattle.jn_base.specs.Unplaced.{nowhere, unplaced_named, unplaced_term, unplaced_view, unplaced_type, unplaced_node, unplaced_expr, unplaced_link, unplaced_suffix, unplaced_given, unplaced_stmt, unplaced_field, unplaced_method, unplaced_member, unplaced_decl, node_step, expr_step, link_step, suffix_step, stmt_step, member_step, decl_step}

node_from : (n : Node) (f : Node-F Node Expr Link Suffix) → out-Node n ≡ f
    → unplaced_node n ≡ node_step (map-Node Node Expr Link Suffix Node Expr Link Suffix unplaced_node unplaced_expr unplaced_link unplaced_suffix f)
unfolding unplaced_node unplaced_expr unplaced_link unplaced_suffix
node_from n f e =
    fold_out-Node Node Expr Link Suffix node_step expr_step link_step suffix_step n
    ∙ ap (λ (x : Node-F Node Expr Link Suffix). node_step (map-Node Node Expr Link Suffix Node Expr Link Suffix unplaced_node unplaced_expr unplaced_link unplaced_suffix x)) e

pub expr_is : (p : Place) (n : Node) → unplaced_expr (expr p n) ≡ expr nowhere (unplaced_node n)
unfolding unplaced_node unplaced_expr
expr_is p n = fold-roll-Expr Node Expr Link Suffix node_step expr_step link_step suffix_step (record { at = p; node = n })

pub expr_same : (p q : Place) (m n : Node) → unplaced_node m ≡ unplaced_node n → unplaced_expr (expr p m) ≡ unplaced_expr (expr q n)
expr_same p q m n h = expr_is p m ∙ ap (expr nowhere) h ∙ sym (expr_is q n)

pub link_is : (o : Op) (p : Place) (e : Expr) → unplaced_link (link o p e) ≡ link o nowhere (unplaced_expr e)
unfolding unplaced_link unplaced_expr
link_is o p e = fold-roll-Link Node Expr Link Suffix node_step expr_step link_step suffix_step (record { op = o; at = p; right = e })

pub link_same : (o : Op) (p q : Place) (e f : Expr) → unplaced_expr e ≡ unplaced_expr f → unplaced_link (link o p e) ≡ unplaced_link (link o q f)
link_same o p q e f h = link_is o p e ∙ ap (link o nowhere) h ∙ sym (link_is o q f)

pub field_is : (x : Name) (p : Place) → unplaced_suffix (suffix x p None) ≡ suffix x nowhere None
unfolding unplaced_suffix
field_is x p = fold-roll-Suffix Node Expr Link Suffix node_step expr_step link_step suffix_step (record { name = named x p; args = None })

pub call_is : (x : Name) (p : Place) (es : List Expr) → unplaced_suffix (suffix x p (Some es)) ≡ suffix x nowhere (Some (map unplaced_expr es))
unfolding unplaced_suffix unplaced_expr
call_is x p es = fold-roll-Suffix Node Expr Link Suffix node_step expr_step link_step suffix_step (record { name = named x p; args = Some es })

pub field_same : (x : Name) (p q : Place) → unplaced_suffix (suffix x p None) ≡ unplaced_suffix (suffix x q None)
field_same x p q = field_is x p ∙ sym (field_is x q)

pub call_same : (x : Name) (p q : Place) (es fs : List Expr) → map unplaced_expr es ≡ map unplaced_expr fs
    → unplaced_suffix (suffix x p (Some es)) ≡ unplaced_suffix (suffix x q (Some fs))
call_same x p q es fs h = call_is x p es ∙ ap (λ (gs : List Expr). suffix x nowhere (Some gs)) h ∙ sym (call_is x q fs)

-- ---- the nodes

new_is : (t : Term) (es : List Expr) → unplaced_node (node.New t es) ≡ node.New (unplaced_term t) (map unplaced_expr es)
new_is t es = node_from (node.New t es) _ (outs-New t es)

pub new_same : (t u : Term) (es fs : List Expr) → unplaced_term t ≡ unplaced_term u → map unplaced_expr es ≡ map unplaced_expr fs
    → unplaced_node (node.New t es) ≡ unplaced_node (node.New u fs)
new_same t u es fs a b = new_is t es ∙ ap₂ (λ (x : Term) (xs : List Expr). node.New x xs) a b ∙ sym (new_is u fs)

super_is : (t : Term) (x : Named) (es : List Expr) → unplaced_node (node.Super t x es) ≡ node.Super (unplaced_term t) (unplaced_named x) (map unplaced_expr es)
super_is t x es = node_from (node.Super t x es) _ (outs-Super t x es)

pub super_same : (t u : Term) (x : Name) (p q : Place) (es fs : List Expr) → unplaced_term t ≡ unplaced_term u → map unplaced_expr es ≡ map unplaced_expr fs
    → unplaced_node (node.Super t (named x p) es) ≡ unplaced_node (node.Super u (named x q) fs)
super_same t u x p q es fs a b =
    super_is t (named x p) es ∙ ap₂ (λ (y : Term) (xs : List Expr). node.Super y (named x nowhere) xs) a b ∙ sym (super_is u (named x q) fs)

post_is : (e : Expr) (ss : List Suffix) → unplaced_node (node.Post e ss) ≡ node.Post (unplaced_expr e) (map unplaced_suffix ss)
post_is e ss = node_from (node.Post e ss) _ (outs-Post e ss)

pub post_same : (e f : Expr) (ss rs : List Suffix) → unplaced_expr e ≡ unplaced_expr f → map unplaced_suffix ss ≡ map unplaced_suffix rs
    → unplaced_node (node.Post e ss) ≡ unplaced_node (node.Post f rs)
post_same e f ss rs a b = post_is e ss ∙ ap₂ (λ (x : Expr) (xs : List Suffix). node.Post x xs) a b ∙ sym (post_is f rs)

not_is : (e : Expr) → unplaced_node (node.Not e) ≡ node.Not (unplaced_expr e)
not_is e = node_from (node.Not e) _ (outs-Not e)

pub not_same : (e f : Expr) → unplaced_expr e ≡ unplaced_expr f → unplaced_node (node.Not e) ≡ unplaced_node (node.Not f)
not_same e f h = not_is e ∙ ap (λ (x : Expr). node.Not x) h ∙ sym (not_is f)

neg_is : (e : Expr) → unplaced_node (node.Neg e) ≡ node.Neg (unplaced_expr e)
neg_is e = node_from (node.Neg e) _ (outs-Neg e)

pub neg_same : (e f : Expr) → unplaced_expr e ≡ unplaced_expr f → unplaced_node (node.Neg e) ≡ unplaced_node (node.Neg f)
neg_same e f h = neg_is e ∙ ap (λ (x : Expr). node.Neg x) h ∙ sym (neg_is f)

view_is : (v : ViewTerm) (e : Expr) → unplaced_node (node.View v e) ≡ node.View (unplaced_view v) (unplaced_expr e)
view_is v e = node_from (node.View v e) _ (outs-View v e)

pub view_same : (v u : ViewTerm) (e f : Expr) → unplaced_view v ≡ unplaced_view u → unplaced_expr e ≡ unplaced_expr f
    → unplaced_node (node.View v e) ≡ unplaced_node (node.View u f)
view_same v u e f a b = view_is v e ∙ ap₂ (λ (x : ViewTerm) (y : Expr). node.View x y) a b ∙ sym (view_is u f)

chain_is : (l : Level) (e : Expr) (ls : List Link) → unplaced_node (node.Chain l e ls) ≡ node.Chain l (unplaced_expr e) (map unplaced_link ls)
chain_is l e ls = node_from (node.Chain l e ls) _ (outs-Chain l e ls)

pub chain_same : (l : Level) (e f : Expr) (ls ks : List Link) → unplaced_expr e ≡ unplaced_expr f → map unplaced_link ls ≡ map unplaced_link ks
    → unplaced_node (node.Chain l e ls) ≡ unplaced_node (node.Chain l f ks)
chain_same l e f ls ks a b = chain_is l e ls ∙ ap₂ (λ (x : Expr) (xs : List Link). node.Chain l x xs) a b ∙ sym (chain_is l f ks)

-- ---- statements

stmt_from : (s : Stmt) (f : Stmt-F Stmt) → out-Stmt s ≡ f → unplaced_stmt s ≡ stmt_step (map-Stmt Stmt Stmt unplaced_stmt f)
unfolding unplaced_stmt
stmt_from s f e = fold_out-Stmt Stmt stmt_step s ∙ ap (λ (x : Stmt-F Stmt). stmt_step (map-Stmt Stmt Stmt unplaced_stmt x)) e

pub block_is : (ss : List Stmt) → unplaced_stmt (stmt.Block ss) ≡ stmt.Block (map unplaced_stmt ss)
block_is ss = stmt_from (stmt.Block ss) _ (outs-Block ss)

pub local_is : (fixed : Bool) (t : TypeTerm) (x : Named) (e : Expr)
    → unplaced_stmt (stmt.Local fixed t x e) ≡ stmt.Local fixed (unplaced_type t) (unplaced_named x) (unplaced_expr e)
local_is fixed t x e = stmt_from (stmt.Local fixed t x e) _ (outs-Local fixed t x e)

pub assign_is : (x : Named) (e : Expr) → unplaced_stmt (stmt.Assign x e) ≡ stmt.Assign (unplaced_named x) (unplaced_expr e)
assign_is x e = stmt_from (stmt.Assign x e) _ (outs-Assign x e)

pub set_is : (of : Expr) (x : Named) (e : Expr) → unplaced_stmt (stmt.Set of x e) ≡ stmt.Set (unplaced_expr of) (unplaced_named x) (unplaced_expr e)
set_is of x e = stmt_from (stmt.Set of x e) _ (outs-Set of x e)

pub do_is : (e : Expr) → unplaced_stmt (stmt.Do e) ≡ stmt.Do (unplaced_expr e)
do_is e = stmt_from (stmt.Do e) _ (outs-Do e)

pub if_is : (e : Expr) (ss rs : List Stmt) (p : Place)
    → unplaced_stmt (stmt.If e ss rs p) ≡ stmt.If (unplaced_expr e) (map unplaced_stmt ss) (map unplaced_stmt rs) nowhere
if_is e ss rs p = stmt_from (stmt.If e ss rs p) _ (outs-If e ss rs p)

pub while_is : (e : Expr) (ss : List Stmt) (p : Place) → unplaced_stmt (stmt.While e ss p) ≡ stmt.While (unplaced_expr e) (map unplaced_stmt ss) nowhere
while_is e ss p = stmt_from (stmt.While e ss p) _ (outs-While e ss p)

pub return_is : (e : Option Expr) (p : Place) → unplaced_stmt (stmt.Return e p) ≡ stmt.Return (unplaced_given e) nowhere
return_is e p = stmt_from (stmt.Return e p) _ (outs-Return e p)

pub print_is : (e : Expr) (p : Place) → unplaced_stmt (stmt.Print e p) ≡ stmt.Print (unplaced_expr e) nowhere
print_is e p = stmt_from (stmt.Print e p) _ (outs-Print e p)

pub print_text_is : (n : ℕ) (p : Place) → unplaced_stmt (stmt.PrintText n p) ≡ stmt.PrintText n nowhere
print_text_is n p = stmt_from (stmt.PrintText n p) _ (outs-PrintText n p)

-- ---- declarations

member_from : (m : Member) (f : Member-F Member Decl) → out-Member m ≡ f
    → unplaced_member m ≡ member_step (map-Member Member Decl Member Decl unplaced_member unplaced_decl f)
unfolding unplaced_member unplaced_decl
member_from m f e =
    fold_out-Member Member Decl member_step decl_step m
    ∙ ap (λ (x : Member-F Member Decl). member_step (map-Member Member Decl Member Decl unplaced_member unplaced_decl x)) e

pub inner_is : (d : Decl) → unplaced_member (member.Inner d) ≡ member.Inner (unplaced_decl d)
inner_is d = member_from (member.Inner d) _ (outs-Inner d)

pub slot_is : (f : Field) → unplaced_member (member.Slot f) ≡ member.Slot (unplaced_field f)
slot_is f = member_from (member.Slot f) _ (outs-Slot f)

pub body_is : (m : Method) → unplaced_member (member.Body m) ≡ member.Body (unplaced_method m)
body_is m = member_from (member.Body m) _ (outs-Body m)

pub decl_is : (k : Kind) (x : Named) (es ss adapted : List Named) (ms : List Member)
    → unplaced_decl (decl k x es ss adapted ms)
    ≡ decl k (unplaced_named x) (map unplaced_named es) (map unplaced_named ss) (map unplaced_named adapted) (map unplaced_member ms)
unfolding unplaced_member unplaced_decl
decl_is k x es ss adapted ms =
    fold-roll-Decl Member Decl member_step decl_step (record { kind = k; name = x; extends = es; shares = ss; adapts = adapted; members = ms })
