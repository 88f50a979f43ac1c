-- The equations of expressions' texts, one level deep.
use Rattle.std.proofs.Common.{◌≡◌, ℕ, ℤ, Bool, List, ◌++◌, [], map, ap, ◌∙◌, refl, not, Some, None, Option}
use Rattle.std.specs.Prelude.{codes}
use Rattle.std.specs.Fmt.{signed_decimal}
use Rattle.jn_base.specs.declared.tree.Text.{Text}
use Rattle.jn_base.specs.declared.tree.Name.{Name}
use Rattle.jn_base.specs.declared.tree.Named.{Named}
use Rattle.jn_base.specs.declared.tree.Place.{Place}
use Rattle.jn_base.specs.declared.tree.Term.{Term}
use Rattle.jn_base.specs.declared.tree.ViewTerm.{ViewTerm}
use Rattle.jn_base.specs.declared.tree.Level.{Level}
use Rattle.jn_base.specs.declared.tree.Expr.{Expr}
use Rattle.jn_base.specs.declared.tree.Link.{Link}
use Rattle.jn_base.specs.declared.tree.Suffix.{Suffix, out-Suffix}
use Rattle.jn_base.specs.declared.tree.Node.{Node, out-Node}
use Rattle.jn_base.specs.declared.tree.Node.TheOpen.{Node-F}
use Rattle.jn_base.specs.declared.tree.Node.TheFolds.{map-Node, map-Suffix, fold_out-Node, fold_out-Expr, fold_out-Link, fold_out-Suffix, fold-roll-Suffix}
use Rattle.jn_base.specs.declared.tree.Node.TheVariants as node
use Rattle.jn_base.specs.declared.tree.Node.TheVariants.{outs-Int, outs-Bool, outs-Null, outs-This, outs-Var, outs-New, outs-Super, outs-Post, outs-Not, outs-Neg, outs-View, outs-Chain}
use Rattle.jn_base.specs.Parts.{suffix, named}
use Rattle.jn_printer.specs.declared.symbol.Symbol.{Symbol}
use Rattle.jn_printer.specs.declared.symbol.Symbol.TheVariants as symbol
use Rattle.jn_printer.specs.Pieces.{text_if, name_text, term_text, view_text}
use Rattle.jn_printer.specs.ExprText.{Writer, Bare, is_instance, symbol_at, symbol_of, operand_symbol, truth, op_text, args_text, given_args, map_args, all_at, all_of, bare_text, node_step, expr_step, link_step, suffix_step, node_bare, expr_text, link_text, suffix_text, placed}

symbol_kept : {A B C D E F G H : Type 0} (f : A → E) (g : B → F) (h : C → G) (k : D → H) (n : Node-F A B C D) → symbol_at (map-Node _ _ _ _ _ _ _ _ f g h k n) ≡ symbol_at n
symbol_kept f g h k (Node-F.Int n) = refl
symbol_kept f g h k (Node-F.Bool b) = refl
symbol_kept f g h k Node-F.Null = refl
symbol_kept f g h k Node-F.This = refl
symbol_kept f g h k (Node-F.Var x) = refl
symbol_kept f g h k (Node-F.New term args) = refl
symbol_kept f g h k (Node-F.Super term name args) = refl
symbol_kept f g h k (Node-F.Post first suffixes) = refl
symbol_kept f g h k (Node-F.Not e) = refl
symbol_kept f g h k (Node-F.Neg e) = refl
symbol_kept f g h k (Node-F.View view e) = refl
symbol_kept f g h k (Node-F.Chain level first links) = refl

pub node_bare_out : (ns : List Text) (n : Node) → node_bare ns n ≡ node_step ns (map-Node _ _ _ _ _ _ _ _ (node_bare ns) (expr_text ns) (link_text ns) (suffix_text ns) (out-Node n))
unfolding node_bare expr_text link_text suffix_text
node_bare_out ns n = fold_out-Node Bare Writer Writer (List ℕ) (node_step ns) (expr_step ns) (link_step ns) (suffix_step ns) n

pub bare_symbol : (ns : List Text) (n : Node) → (node_bare ns n).symbol ≡ symbol_of n
bare_symbol ns n =
    ap (λ (b : Bare). b.symbol) (node_bare_out ns n)
    ∙ symbol_kept (node_bare ns) (expr_text ns) (link_text ns) (suffix_text ns) (out-Node n)

pub expr_placed : (ns : List Text) (e : Expr) (asked : Symbol) → expr_text ns e asked ≡ placed (node_bare ns e.node) asked
unfolding node_bare expr_text
expr_placed ns e asked =
    ap (λ (w : Writer). w asked) (fold_out-Expr Bare Writer Writer (List ℕ) (node_step ns) (expr_step ns) (link_step ns) (suffix_step ns) e)

pub placed_text : (ns : List Text) (e : Expr) (asked : Symbol) → expr_text ns e asked
    ≡ text_if (not (is_instance (symbol_of e.node) asked)) (codes "(") ++ ((node_bare ns e.node).text ++ text_if (not (is_instance (symbol_of e.node) asked)) (codes ")"))
placed_text ns e asked =
    expr_placed ns e asked
    ∙ ap (λ (s : Symbol). text_if (not (is_instance s asked)) (codes "(") ++ ((node_bare ns e.node).text ++ text_if (not (is_instance s asked)) (codes ")"))) (bare_symbol ns e.node)

pub link_placed : (ns : List Text) (l : Link) (asked : Symbol) → link_text ns l asked ≡ op_text l.op ++ expr_text ns l.right asked
unfolding link_text expr_text
link_placed ns l asked = ap (λ (w : Writer). w asked) (fold_out-Link Bare Writer Writer (List ℕ) (node_step ns) (expr_step ns) (link_step ns) (suffix_step ns) l)

-- the text of a node from one level of it
from : (ns : List Text) (n : Node) (f : Node-F Node Expr Link Suffix) → out-Node n ≡ f
    → (node_bare ns n).text ≡ bare_text ns (map-Node _ _ _ _ _ _ _ _ (node_bare ns) (expr_text ns) (link_text ns) (suffix_text ns) f)
from ns n f e =
    ap (λ (b : Bare). b.text) (node_bare_out ns n)
    ∙ ap (λ (x : Node-F Node Expr Link Suffix). bare_text ns (map-Node _ _ _ _ _ _ _ _ (node_bare ns) (expr_text ns) (link_text ns) (suffix_text ns) x)) e

pub bare_number : (ns : List Text) (k : ℤ) → (node_bare ns (node.Int k)).text ≡ signed_decimal k
bare_number ns k = from ns (node.Int k) _ (outs-Int k)

pub bare_truth : (ns : List Text) (b : Bool) → (node_bare ns (node.Bool b)).text ≡ truth b
bare_truth ns b = from ns (node.Bool b) _ (outs-Bool b)

pub bare_null : (ns : List Text) → (node_bare ns node.Null).text ≡ codes "null"
bare_null ns = from ns node.Null _ outs-Null

pub bare_this : (ns : List Text) → (node_bare ns node.This).text ≡ codes "this"
bare_this ns = from ns node.This _ outs-This

pub bare_variable : (ns : List Text) (x : Name) → (node_bare ns (node.Var x)).text ≡ name_text ns x
bare_variable ns x = from ns (node.Var x) _ (outs-Var x)

pub bare_new : (ns : List Text) (t : Term) (es : List Expr) → (node_bare ns (node.New t es)).text
    ≡ codes "new " ++ (term_text ns t ++ args_text (map (expr_text ns) es))
bare_new ns t es = from ns (node.New t es) _ (outs-New t es)

pub bare_super : (ns : List Text) (t : Term) (x : Named) (es : List Expr) → (node_bare ns (node.Super t x es)).text
    ≡ codes "super[" ++ (term_text ns t ++ (codes "]." ++ (name_text ns x.name ++ args_text (map (expr_text ns) es))))
bare_super ns t x es = from ns (node.Super t x es) _ (outs-Super t x es)

pub bare_post : (ns : List Text) (e : Expr) (ss : List Suffix) → (node_bare ns (node.Post e ss)).text
    ≡ expr_text ns e symbol.Prim ++ all_of (map (suffix_text ns) ss)
bare_post ns e ss = from ns (node.Post e ss) _ (outs-Post e ss)

pub bare_inverse : (ns : List Text) (e : Expr) → (node_bare ns (node.Not e)).text ≡ codes "!" ++ expr_text ns e symbol.Unary
bare_inverse ns e = from ns (node.Not e) _ (outs-Not e)

pub bare_negative : (ns : List Text) (e : Expr) → (node_bare ns (node.Neg e)).text ≡ codes "-" ++ expr_text ns e symbol.Unary
bare_negative ns e = from ns (node.Neg e) _ (outs-Neg e)

pub bare_view : (ns : List Text) (v : ViewTerm) (e : Expr) → (node_bare ns (node.View v e)).text
    ≡ codes "(view " ++ (view_text ns v ++ (codes ") " ++ expr_text ns e symbol.Unary))
bare_view ns v e = from ns (node.View v e) _ (outs-View v e)

pub bare_chain : (ns : List Text) (l : Level) (e : Expr) (ls : List Link) → (node_bare ns (node.Chain l e ls)).text
    ≡ expr_text ns e (operand_symbol l) ++ all_at (operand_symbol l) (map (link_text ns) ls)
bare_chain ns l e ls = from ns (node.Chain l e ls) _ (outs-Chain l e ls)

pub field_text : (ns : List Text) (x : Name) (at : Place) → suffix_text ns (suffix x at None) ≡ codes "." ++ (name_text ns x ++ [])
unfolding suffix_text
field_text ns x at =
    fold-roll-Suffix Bare Writer Writer (List ℕ) (node_step ns) (expr_step ns) (link_step ns) (suffix_step ns) (record { name = named x at; args = None })

pub call_text : (ns : List Text) (x : Name) (at : Place) (es : List Expr) → suffix_text ns (suffix x at (Some es)) ≡ codes "." ++ (name_text ns x ++ args_text (map (expr_text ns) es))
unfolding suffix_text expr_text
call_text ns x at es =
    fold-roll-Suffix Bare Writer Writer (List ℕ) (node_step ns) (expr_step ns) (link_step ns) (suffix_step ns) (record { name = named x at; args = Some es })

suffix_from : (ns : List Text) (x : Named) (f : Option (List Expr))
    → suffix_step ns (map-Suffix Node Expr Link Suffix Bare Writer Writer (List ℕ) (node_bare ns) (expr_text ns) (link_text ns) (suffix_text ns) record { name = x; args = f })
    ≡ codes "." ++ (name_text ns x.name ++ given_args (map_args ns f))
suffix_from ns x None = refl
suffix_from ns x (Some es) = refl

suffix_out : (ns : List Text) (s : Suffix)
    → suffix_text ns s ≡ suffix_step ns (map-Suffix Node Expr Link Suffix Bare Writer Writer (List ℕ) (node_bare ns) (expr_text ns) (link_text ns) (suffix_text ns) (out-Suffix s))
unfolding node_bare expr_text link_text suffix_text
suffix_out ns s = fold_out-Suffix Bare Writer Writer (List ℕ) (node_step ns) (expr_step ns) (link_step ns) (suffix_step ns) s

pub suffix_parts : (ns : List Text) (s : Suffix) → suffix_text ns s
    ≡ codes "." ++ (name_text ns (out-Suffix s).name.name ++ given_args (map_args ns (out-Suffix s).args))
suffix_parts ns s = suffix_out ns s ∙ suffix_from ns (out-Suffix s).name (out-Suffix s).args
