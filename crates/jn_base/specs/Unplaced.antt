-- Trees without their places: each node, name and term is put where nothing stands, and nothing else is changed.
use Rattle.std.specs.Prelude.{◌≡◌, map, Option, Some, None}
use Rattle.jn_base.specs.declared.tree.Place.{Place}
use Rattle.jn_base.specs.declared.tree.Named.{Named}
use Rattle.jn_base.specs.declared.tree.Term.{Term}
use Rattle.jn_base.specs.declared.tree.ViewTerm.{ViewTerm}
use Rattle.jn_base.specs.declared.tree.TypeTerm.{TypeTerm}
use Rattle.jn_base.specs.declared.tree.TypeTerm.TheVariants as type_term
use Rattle.jn_base.specs.declared.tree.Expr.{Expr, fold-Expr}
use Rattle.jn_base.specs.declared.tree.Node.{Node, fold-Node}
use Rattle.jn_base.specs.declared.tree.Node.TheVariants as node
use Rattle.jn_base.specs.declared.tree.Link.{Link, fold-Link}
use Rattle.jn_base.specs.declared.tree.Suffix.{Suffix, fold-Suffix}
use Rattle.jn_base.specs.declared.tree.Node.TheOpen.{Node-F, Expr-F, Link-F, Suffix-F}
use Rattle.jn_base.specs.declared.tree.Stmt.{Stmt, fold-Stmt}
use Rattle.jn_base.specs.declared.tree.Stmt.TheOpen.{Stmt-F}
use Rattle.jn_base.specs.declared.tree.Stmt.TheVariants as stmt
use Rattle.jn_base.specs.declared.tree.Param.{Param}
use Rattle.jn_base.specs.declared.tree.Constraint.{Constraint}
use Rattle.jn_base.specs.declared.tree.Field.{Field}
use Rattle.jn_base.specs.declared.tree.Method.{Method}
use Rattle.jn_base.specs.declared.tree.Decl.{Decl, fold-Decl}
use Rattle.jn_base.specs.declared.tree.Member.{Member, fold-Member}
use Rattle.jn_base.specs.declared.tree.Member.TheOpen.{Member-F, Decl-F}
use Rattle.jn_base.specs.declared.tree.Member.TheVariants as member
use Rattle.jn_base.specs.declared.tree.Program.{Program}
use Rattle.jn_base.specs.Parts.{named, term, expr, suffix, link}
use Rattle.jn_base.specs.GrammarDecl.{decl}

abbrev pub nowhere : Place
nowhere = record { line = 0; column = 0 }

abbrev pub unplaced_named : Named → Named
unplaced_named x = named x.name nowhere

abbrev pub unplaced_term : Term → Term
unplaced_term t = term t.head t.exact t.names nowhere

abbrev pub unplaced_view : ViewTerm → ViewTerm
unplaced_view v = record { term = unplaced_term v.term; masks = map unplaced_named v.masks }

abbrev pub unplaced_type : TypeTerm → TypeTerm
unplaced_type type_term.Int = type_term.Int
unplaced_type type_term.Bool = type_term.Bool
unplaced_type (type_term.Class ts ms) = type_term.Class (map unplaced_term ts) (map unplaced_named ms)

abbrev pub node_step : Node-F Node Expr Link Suffix → Node
node_step (Node-F.Int n) = node.Int n
node_step (Node-F.Bool b) = node.Bool b
node_step Node-F.Null = node.Null
node_step Node-F.This = node.This
node_step (Node-F.Var x) = node.Var x
node_step (Node-F.New t args) = node.New (unplaced_term t) args
node_step (Node-F.Super t x args) = node.Super (unplaced_term t) (unplaced_named x) args
node_step (Node-F.Post first suffixes) = node.Post first suffixes
node_step (Node-F.Not e) = node.Not e
node_step (Node-F.Neg e) = node.Neg e
node_step (Node-F.View v e) = node.View (unplaced_view v) e
node_step (Node-F.Chain level first links) = node.Chain level first links

abbrev pub expr_step : Expr-F Node Expr Link Suffix → Expr
expr_step e = expr nowhere e.node

abbrev pub link_step : Link-F Node Expr Link Suffix → Link
link_step l = link l.op nowhere l.right

abbrev pub suffix_step : Suffix-F Node Expr Link Suffix → Suffix
suffix_step s = suffix s.name.name nowhere s.args

unfoldable pub unplaced_node : Node → Node
unplaced_node = fold-Node Node Expr Link Suffix node_step expr_step link_step suffix_step

unfoldable pub unplaced_expr : Expr → Expr
unplaced_expr = fold-Expr Node Expr Link Suffix node_step expr_step link_step suffix_step

unfoldable pub unplaced_link : Link → Link
unplaced_link = fold-Link Node Expr Link Suffix node_step expr_step link_step suffix_step

unfoldable pub unplaced_suffix : Suffix → Suffix
unplaced_suffix = fold-Suffix Node Expr Link Suffix node_step expr_step link_step suffix_step

abbrev pub unplaced_given : Option Expr → Option Expr
unplaced_given None = None
unplaced_given (Some e) = Some (unplaced_expr e)

abbrev pub stmt_step : Stmt-F Stmt → Stmt
stmt_step (Stmt-F.Block body) = stmt.Block body
stmt_step (Stmt-F.Local fixed t x e) = stmt.Local fixed (unplaced_type t) (unplaced_named x) (unplaced_expr e)
stmt_step (Stmt-F.Assign x e) = stmt.Assign (unplaced_named x) (unplaced_expr e)
stmt_step (Stmt-F.Set of x e) = stmt.Set (unplaced_expr of) (unplaced_named x) (unplaced_expr e)
stmt_step (Stmt-F.Do e) = stmt.Do (unplaced_expr e)
stmt_step (Stmt-F.If e body other at) = stmt.If (unplaced_expr e) body other nowhere
stmt_step (Stmt-F.While e body at) = stmt.While (unplaced_expr e) body nowhere
stmt_step (Stmt-F.Return e at) = stmt.Return (unplaced_given e) nowhere
stmt_step (Stmt-F.Print e at) = stmt.Print (unplaced_expr e) nowhere
stmt_step (Stmt-F.PrintText n at) = stmt.PrintText n nowhere

unfoldable pub unplaced_stmt : Stmt → Stmt
unplaced_stmt = fold-Stmt Stmt stmt_step

abbrev pub unplaced_param : Param → Param
unplaced_param p = record { fixed = p.fixed; ty = unplaced_type p.ty; name = unplaced_named p.name }

abbrev pub unplaced_constraint : Constraint → Constraint
unplaced_constraint c = record { from = unplaced_view c.from; to = unplaced_view c.to }

abbrev pub unplaced_field : Field → Field
unplaced_field f = record { ty = unplaced_type f.ty; name = unplaced_named f.name }

abbrev pub unplaced_result : Option TypeTerm → Option TypeTerm
unplaced_result None = None
unplaced_result (Some t) = Some (unplaced_type t)

abbrev pub unplaced_method : Method → Method
unplaced_method m = record {
  result = unplaced_result m.result;
  name = unplaced_named m.name;
  params = map unplaced_param m.params;
  sharing = map unplaced_constraint m.sharing;
  body = map unplaced_stmt m.body;
}

abbrev pub member_step : Member-F Member Decl → Member
member_step (Member-F.Inner d) = member.Inner d
member_step (Member-F.Slot f) = member.Slot (unplaced_field f)
member_step (Member-F.Body m) = member.Body (unplaced_method m)

abbrev pub decl_step : Decl-F Member Decl → Decl
decl_step d = decl d.kind (unplaced_named d.name) (map unplaced_named d.extends) (map unplaced_named d.shares) (map unplaced_named d.adapts) d.members

unfoldable pub unplaced_member : Member → Member
unplaced_member = fold-Member Member Decl member_step decl_step

unfoldable pub unplaced_decl : Decl → Decl
unplaced_decl = fold-Decl Member Decl member_step decl_step

abbrev pub unplaced : Program → Program
unplaced p = record { names = p.names; texts = p.texts; decls = map unplaced_decl p.decls }

-- Two programs are the same but for places.
abbrev pub IsSameButForPlaces : Program → Program → Type 0
IsSameButForPlaces p q = unplaced p ≡ unplaced q
