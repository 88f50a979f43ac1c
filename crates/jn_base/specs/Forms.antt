-- What a program mentions, in the order of its text: its terms, its masks, and the forms of sharing.
use Rattle.std.specs.Prelude.{Bool, true, false, IsTrue, List, [], ◌∷◌, ◌++◌, map, Option, Some, None, Contains}
use Rattle.jn_base.specs.declared.tree.Named.{Named}
use Rattle.jn_base.specs.declared.tree.Ref.{Ref}
use Rattle.jn_base.specs.declared.tree.Ref.TheVariants as ref
use Rattle.jn_base.specs.declared.tree.Head.{Head}
use Rattle.jn_base.specs.declared.tree.Head.TheVariants as head
use Rattle.jn_base.specs.declared.tree.Term.{Term}
use Rattle.jn_base.specs.declared.tree.ViewTerm.{ViewTerm}
use Rattle.jn_base.specs.declared.tree.TypeTerm.{TypeTerm}
use Rattle.jn_base.specs.declared.tree.TypeTerm.TheVariants as type
use Rattle.jn_base.specs.declared.tree.Expr.{Expr, fold-Expr}
use Rattle.jn_base.specs.declared.tree.Node.{Node, fold-Node}
use Rattle.jn_base.specs.declared.tree.Link.{Link, fold-Link}
use Rattle.jn_base.specs.declared.tree.Suffix.{Suffix, fold-Suffix}
use Rattle.jn_base.specs.declared.tree.Node.TheOpen.{Node-F, Expr-F, Link-F, Suffix-F}
use Rattle.jn_base.specs.declared.tree.Stmt.{Stmt, fold-Stmt}
use Rattle.jn_base.specs.declared.tree.Stmt.TheOpen.{Stmt-F}
use Rattle.jn_base.specs.declared.tree.Param.{Param}
use Rattle.jn_base.specs.declared.tree.Constraint.{Constraint}
use Rattle.jn_base.specs.declared.tree.Field.{Field}
use Rattle.jn_base.specs.declared.tree.Method.{Method}
use Rattle.jn_base.specs.declared.tree.Member.{Member, fold-Member}
use Rattle.jn_base.specs.declared.tree.Member.TheOpen.{Member-F, Decl-F}
use Rattle.jn_base.specs.declared.tree.Decl.{Decl, fold-Decl}
use Rattle.jn_base.specs.declared.tree.Program.{Program}

pub data Mention : Type 0 where
  -- a name in a `shares` list, and one in an `adapts` list
  Shared : Named → Mention
  Adapted : Named → Mention
  -- a constraint of a `sharing` list; its two sides follow
  Constrained : Mention
  -- `(view ..)`; its target follows
  Viewed : Mention
  -- a term of a type, view, `new` or `super`
  Termed : Term → Mention
  -- a mask of a type or view
  Masked : Named → Mention

abbrev pub Mentions : Type 0
Mentions = List Mention

-- one behind the other
abbrev pub all_of : {A : Type 0} → List (List A) → List A
all_of [] = []
all_of (xs ∷ xss) = xs ++ all_of xss

abbrev pub given : {A B : Type 0} → (A → List B) → Option A → List B
given f None = []
given f (Some x) = f x

-- a type's terms, then its masks
abbrev pub of_type : TypeTerm → Mentions
of_type type.Int = []
of_type type.Bool = []
of_type (type.Class terms masks) = map Termed terms ++ map Masked masks

abbrev pub of_view : ViewTerm → Mentions
of_view v = Termed v.term ∷ map Masked v.masks

abbrev pub node_step : Node-F Mentions Mentions Mentions Mentions → Mentions
node_step (Node-F.Int n) = []
node_step (Node-F.Bool b) = []
node_step Node-F.Null = []
node_step Node-F.This = []
node_step (Node-F.Var x) = []
node_step (Node-F.New term args) = Termed term ∷ all_of args
node_step (Node-F.Super term name args) = Termed term ∷ all_of args
node_step (Node-F.Post first suffixes) = first ++ all_of suffixes
node_step (Node-F.Not e) = e
node_step (Node-F.Neg e) = e
node_step (Node-F.View view e) = Viewed ∷ (of_view view ++ e)
node_step (Node-F.Chain level first links) = first ++ all_of links

abbrev pub expr_step : Expr-F Mentions Mentions Mentions Mentions → Mentions
expr_step e = e.node

abbrev pub link_step : Link-F Mentions Mentions Mentions Mentions → Mentions
link_step l = l.right

abbrev pub suffix_step : Suffix-F Mentions Mentions Mentions Mentions → Mentions
suffix_step s = given all_of s.args

unfoldable pub of_node : Node → Mentions
of_node = fold-Node Mentions Mentions Mentions Mentions node_step expr_step link_step suffix_step

unfoldable pub of_expr : Expr → Mentions
of_expr = fold-Expr Mentions Mentions Mentions Mentions node_step expr_step link_step suffix_step

unfoldable pub of_link : Link → Mentions
of_link = fold-Link Mentions Mentions Mentions Mentions node_step expr_step link_step suffix_step

unfoldable pub of_suffix : Suffix → Mentions
of_suffix = fold-Suffix Mentions Mentions Mentions Mentions node_step expr_step link_step suffix_step

abbrev pub stmt_step : Stmt-F Mentions → Mentions
stmt_step (Stmt-F.Block body) = all_of body
stmt_step (Stmt-F.Local fixed ty name e) = of_type ty ++ of_expr e
stmt_step (Stmt-F.Assign name e) = of_expr e
stmt_step (Stmt-F.Set of name e) = of_expr of ++ of_expr e
stmt_step (Stmt-F.Do e) = of_expr e
stmt_step (Stmt-F.If e body other at) = of_expr e ++ (all_of body ++ all_of other)
stmt_step (Stmt-F.While e body at) = of_expr e ++ all_of body
stmt_step (Stmt-F.Return e at) = given of_expr e
stmt_step (Stmt-F.Print e at) = of_expr e
stmt_step (Stmt-F.PrintText text at) = []

unfoldable pub of_stmt : Stmt → Mentions
of_stmt = fold-Stmt Mentions stmt_step

abbrev pub of_param : Param → Mentions
of_param p = of_type p.ty

abbrev pub of_constraint : Constraint → Mentions
of_constraint c = Constrained ∷ (of_view c.from ++ of_view c.to)

abbrev pub of_field : Field → Mentions
of_field f = of_type f.ty

abbrev pub of_method : Method → Mentions
of_method m = given of_type m.result
    ++ (all_of (map of_param m.params) ++ (all_of (map of_constraint m.sharing) ++ all_of (map of_stmt m.body)))

abbrev pub member_step : Member-F Mentions Mentions → Mentions
member_step (Member-F.Inner d) = d
member_step (Member-F.Slot f) = of_field f
member_step (Member-F.Body m) = of_method m

abbrev pub decl_step : Decl-F Mentions Mentions → Mentions
decl_step d = map Shared d.shares ++ (map Adapted d.adapts ++ all_of d.members)

unfoldable pub of_member : Member → Mentions
of_member = fold-Member Mentions Mentions member_step decl_step

unfoldable pub of_decl : Decl → Mentions
of_decl = fold-Decl Mentions Mentions member_step decl_step

-- all that a program mentions
abbrev pub mentions : Program → Mentions
mentions p = all_of (map of_decl p.decls)

-- the forms of sharing are `shares`, `adapts`, `sharing`, `(view ..)` and masks
abbrev pub is_sharing : Mention → Bool
is_sharing (Shared name) = true
is_sharing (Adapted name) = true
is_sharing Constrained = true
is_sharing Viewed = true
is_sharing (Termed term) = false
is_sharing (Masked name) = true

abbrev pub is_variable : Ref → Bool
is_variable ref.This = false
is_variable (ref.Var x) = true

abbrev pub head_names : Head → Bool
head_names head.Plain = false
head_names (head.Own of) = is_variable of
head_names (head.Prefix names of) = is_variable of

-- a term that names a path other than `this`
abbrev pub names_path : Mention → Bool
names_path (Shared name) = false
names_path (Adapted name) = false
names_path Constrained = false
names_path Viewed = false
names_path (Termed term) = head_names term.head
names_path (Masked name) = false

-- the program mentions something that passes the test
pub record Mentioned (p : Program) (test : Mention → Bool) : Type 0 where
  pub what : Mention
  pub among : Contains (mentions p) what
  pub passes : IsTrue (test what)

-- the program has a form of sharing
abbrev pub HasSharing : Program → Type 0
HasSharing p = Mentioned p is_sharing

-- some term of the program names a path other than `this`
abbrev pub NamesPaths : Program → Type 0
NamesPaths p = Mentioned p names_path
