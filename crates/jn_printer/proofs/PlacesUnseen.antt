-- The canonical text of an expression does not hang on its places.
use Rattle.std.proofs.Common.{◌≡◌, ℕ, Bool, true, false, List, [], ◌∷◌, ◌++◌, map, Option, Some, None, codes, refl, sym, ap, ap₂, subst, ◌∙◌}
use Rattle.jn_base.specs.declared.tree.Named.{Named}
use Rattle.jn_base.specs.declared.tree.Text.{Text}
use Rattle.jn_base.specs.declared.tree.Term.{Term}
use Rattle.jn_base.specs.declared.tree.ViewTerm.{ViewTerm}
use Rattle.jn_base.specs.declared.tree.TypeTerm.{TypeTerm}
use Rattle.jn_base.specs.declared.tree.TypeTerm.TheVariants as type_term
use Rattle.jn_base.specs.declared.tree.Expr.{Expr, roll-Expr}
use Rattle.jn_base.specs.declared.tree.Node.{Node, out-Node, roll-Node}
use Rattle.jn_base.specs.declared.tree.Link.{Link, roll-Link}
use Rattle.jn_base.specs.declared.tree.Suffix.{Suffix, roll-Suffix}
use Rattle.jn_base.specs.declared.tree.Node.TheOpen.{Node-F, Expr-F, Link-F, Suffix-F}
use Rattle.jn_base.specs.declared.tree.Node.TheFolds.{map-Node, map-Expr, map-Link, map-Suffix, ind-Expr, fold_out-Node, fold-roll-Node, fold-roll-Expr, fold-roll-Link, fold-roll-Suffix}
use Rattle.jn_base.specs.declared.tree.Node.TheVariants as node
use Rattle.jn_base.specs.declared.tree.Node.TheVariants.{outs-Int, outs-Bool, outs-Null, outs-This, outs-Var, outs-New, outs-Super, outs-Post, outs-Not, outs-Neg, outs-View, outs-Chain}
use Rattle.jn_base.specs.Parts.{named, link, expr}
use Rattle.jn_printer.specs.declared.symbol.Symbol.{Symbol}
use Rattle.jn_printer.specs.declared.symbol.Symbol.TheVariants as symbol
use Rattle.jn_printer.specs.Pieces.{text_if, joined, name_text, named_text, masks_text, term_text, view_text, type_text}
use Rattle.jn_printer.specs.ExprText.{Writer, Bare, chain_symbol, operand_symbol, op_text, args_text, all_at, all_of, placed, bare_text, node_bare, expr_text, link_text, suffix_text}
use Rattle.jn_printer.specs.ExprText as ExprText
use Rattle.jn_base.specs.Unplaced.{nowhere, unplaced_named, unplaced_term, unplaced_view, unplaced_type, unplaced_node, unplaced_expr, unplaced_link, unplaced_suffix}
use Rattle.jn_base.specs.Unplaced as Unplaced

-- ---- names, terms, views and types

pub joined_same : {A : Type 0} (text : A → List ℕ) (g : A → A) → ((x : A) → text (g x) ≡ text x) → (separator : List ℕ) (later : Bool) (xs : List A)
    → joined text separator later (map g xs) ≡ joined text separator later xs
joined_same text g h separator later [] = refl
joined_same text g h separator later (x ∷ xs) = ap₂ (λ (a b : List ℕ). text_if later separator ++ (a ++ b)) (h x) (joined_same text g h separator true xs)

pub named_same : (ns : List Text) (x : Named) → named_text ns (unplaced_named x) ≡ named_text ns x
named_same ns x = refl

pub term_unseen : (ns : List Text) (t : Term) → term_text ns (unplaced_term t) ≡ term_text ns t
unfolding term_text
term_unseen ns t = refl

masks_unseen : (ns : List Text) (ms : List Named) → masks_text ns (map unplaced_named ms) ≡ masks_text ns ms
masks_unseen ns ms = joined_same (named_text ns) unplaced_named (named_same ns) (codes "\\") true ms

pub view_unseen : (ns : List Text) (v : ViewTerm) → view_text ns (unplaced_view v) ≡ view_text ns v
unfolding view_text
view_unseen ns v = ap₂ (λ (a b : List ℕ). a ++ b) (term_unseen ns v.term) (masks_unseen ns v.masks)

pub type_unseen : (ns : List Text) (t : TypeTerm) → type_text ns (unplaced_type t) ≡ type_text ns t
unfolding type_text
type_unseen ns type_term.Int = refl
type_unseen ns type_term.Bool = refl
type_unseen ns (type_term.Class ts ms) =
    ap₂ (λ (a b : List ℕ). a ++ b) (joined_same (term_text ns) unplaced_term (term_unseen ns) (codes " & ") false ts) (masks_unseen ns ms)

-- ---- expressions

abbrev NodeSame : List Text → Node → Type 0
NodeSame ns n = node_bare ns (unplaced_node n) ≡ node_bare ns n

abbrev ExprSame : List Text → Expr → Type 0
ExprSame ns e = expr_text ns (unplaced_expr e) ≡ expr_text ns e

abbrev LinkSame : List Text → Link → Type 0
LinkSame ns l = link_text ns (unplaced_link l) ≡ link_text ns l

abbrev SuffixSame : List Text → Suffix → Type 0
SuffixSame ns s = suffix_text ns (unplaced_suffix s) ≡ suffix_text ns s

abbrev Told : List Text → Type 0
Told ns = Node-F ((n : Node) × NodeSame ns n) ((e : Expr) × ExprSame ns e) ((l : Link) × LinkSame ns l) ((s : Suffix) × SuffixSame ns s)

abbrev layer : (ns : List Text) → Told ns → Node-F Node Expr Link Suffix
layer ns = map-Node _ _ _ _ _ _ _ _ (λ e. e.0) (λ e. e.0) (λ e. e.0) (λ e. e.0)

exprs_same : (ns : List Text) (es : List ((e : Expr) × ExprSame ns e)) → map (expr_text ns) (map unplaced_expr (map (λ e. e.0) es)) ≡ map (expr_text ns) (map (λ e. e.0) es)
exprs_same ns [] = refl
exprs_same ns (e ∷ es) = ap₂ (λ (w : Writer) (ws : List Writer). w ∷ ws) e.1 (exprs_same ns es)

links_same : (ns : List Text) (ls : List ((l : Link) × LinkSame ns l)) → map (link_text ns) (map unplaced_link (map (λ e. e.0) ls)) ≡ map (link_text ns) (map (λ e. e.0) ls)
links_same ns [] = refl
links_same ns (l ∷ ls) = ap₂ (λ (w : Writer) (ws : List Writer). w ∷ ws) l.1 (links_same ns ls)

suffixes_same : (ns : List Text) (ss : List ((s : Suffix) × SuffixSame ns s)) → map (suffix_text ns) (map unplaced_suffix (map (λ e. e.0) ss)) ≡ map (suffix_text ns) (map (λ e. e.0) ss)
suffixes_same ns [] = refl
suffixes_same ns (s ∷ ss) = ap₂ (λ (w : List ℕ) (ws : List (List ℕ)). w ∷ ws) s.1 (suffixes_same ns ss)

-- the bare text of a node, and of a node without its places, one level deep
abbrev written : List Text → Node-F Node Expr Link Suffix → Bare
written ns f = ExprText.node_step ns (map-Node Node Expr Link Suffix Bare Writer Writer (List ℕ) (node_bare ns) (expr_text ns) (link_text ns) (suffix_text ns) f)

written_out : (ns : List Text) (n : Node) (f : Node-F Node Expr Link Suffix) → out-Node n ≡ f → node_bare ns n ≡ written ns f
unfolding node_bare expr_text link_text suffix_text
written_out ns n f e =
    fold_out-Node Bare Writer Writer (List ℕ) (ExprText.node_step ns) (ExprText.expr_step ns) (ExprText.link_step ns) (ExprText.suffix_step ns) n
    ∙ ap (λ (x : Node-F Node Expr Link Suffix). written ns x) e

written_roll : (ns : List Text) (f : Node-F Node Expr Link Suffix) → node_bare ns (roll-Node f) ≡ written ns f
unfolding node_bare expr_text link_text suffix_text
written_roll ns f = fold-roll-Node Bare Writer Writer (List ℕ) (ExprText.node_step ns) (ExprText.expr_step ns) (ExprText.link_step ns) (ExprText.suffix_step ns) f

abbrev stripped : Node-F Node Expr Link Suffix → Node
stripped f = Unplaced.node_step (map-Node Node Expr Link Suffix Node Expr Link Suffix unplaced_node unplaced_expr unplaced_link unplaced_suffix f)

stripped_roll : (f : Node-F Node Expr Link Suffix) → unplaced_node (roll-Node f) ≡ stripped f
unfolding unplaced_node unplaced_expr unplaced_link unplaced_suffix
stripped_roll f = fold-roll-Node Node Expr Link Suffix Unplaced.node_step Unplaced.expr_step Unplaced.link_step Unplaced.suffix_step f

abbrev bare : Symbol → List ℕ → Bare
bare s t = record { symbol = s; text = t }

layer_same : (ns : List Text) (y : Told ns) → node_bare ns (stripped (layer ns y)) ≡ written ns (layer ns y)
layer_same ns (Node-F.Int n) = written_out ns (node.Int n) _ (outs-Int n)
layer_same ns (Node-F.Bool b) = written_out ns (node.Bool b) _ (outs-Bool b)
layer_same ns Node-F.Null = written_out ns node.Null _ outs-Null
layer_same ns Node-F.This = written_out ns node.This _ outs-This
layer_same ns (Node-F.Var x) = written_out ns (node.Var x) _ (outs-Var x)
layer_same ns (Node-F.New t es) =
    written_out ns (node.New (unplaced_term t) (map unplaced_expr (map (λ e. e.0) es))) _ (outs-New (unplaced_term t) (map unplaced_expr (map (λ e. e.0) es)))
    ∙ ap₂ (λ (a : List ℕ) (ws : List Writer). bare symbol.Prim (codes "new " ++ (a ++ args_text ws))) (term_unseen ns t) (exprs_same ns es)
layer_same ns (Node-F.Super t x es) =
    written_out ns (node.Super (unplaced_term t) (unplaced_named x) (map unplaced_expr (map (λ e. e.0) es))) _ (outs-Super (unplaced_term t) (unplaced_named x) (map unplaced_expr (map (λ e. e.0) es)))
    ∙ ap₂ (λ (a : List ℕ) (ws : List Writer). bare symbol.Prim (codes "super[" ++ (a ++ (codes "]." ++ (name_text ns x.name ++ args_text ws))))) (term_unseen ns t) (exprs_same ns es)
layer_same ns (Node-F.Post e ss) =
    written_out ns (node.Post (unplaced_expr e.0) (map unplaced_suffix (map (λ e. e.0) ss))) _ (outs-Post (unplaced_expr e.0) (map unplaced_suffix (map (λ e. e.0) ss)))
    ∙ ap₂ (λ (w : Writer) (ws : List (List ℕ)). bare symbol.Post (w symbol.Prim ++ all_of ws)) e.1 (suffixes_same ns ss)
layer_same ns (Node-F.Not e) =
    written_out ns (node.Not (unplaced_expr e.0)) _ (outs-Not (unplaced_expr e.0)) ∙ ap (λ (w : Writer). bare symbol.Unary (codes "!" ++ w symbol.Unary)) e.1
layer_same ns (Node-F.Neg e) =
    written_out ns (node.Neg (unplaced_expr e.0)) _ (outs-Neg (unplaced_expr e.0)) ∙ ap (λ (w : Writer). bare symbol.Unary (codes "-" ++ w symbol.Unary)) e.1
layer_same ns (Node-F.View v e) =
    written_out ns (node.View (unplaced_view v) (unplaced_expr e.0)) _ (outs-View (unplaced_view v) (unplaced_expr e.0))
    ∙ ap₂ (λ (a : List ℕ) (w : Writer). bare symbol.Unary (codes "(view " ++ (a ++ (codes ") " ++ w symbol.Unary)))) (view_unseen ns v) e.1
layer_same ns (Node-F.Chain l e ls) =
    written_out ns (node.Chain l (unplaced_expr e.0) (map unplaced_link (map (λ e. e.0) ls))) _ (outs-Chain l (unplaced_expr e.0) (map unplaced_link (map (λ e. e.0) ls)))
    ∙ ap₂ (λ (w : Writer) (ws : List Writer). bare (chain_symbol l) (w (operand_symbol l) ++ all_at (operand_symbol l) ws)) e.1 (links_same ns ls)

node_same : (ns : List Text) (y : Told ns) → NodeSame ns (roll-Node (layer ns y))
node_same ns y = ap (node_bare ns) (stripped_roll (layer ns y)) ∙ layer_same ns y ∙ sym (written_roll ns (layer ns y))

expr_written : (ns : List Text) (x : Expr-F Node Expr Link Suffix) → expr_text ns (roll-Expr x) ≡ placed (node_bare ns x.node)
unfolding node_bare expr_text
expr_written ns x = fold-roll-Expr Bare Writer Writer (List ℕ) (ExprText.node_step ns) (ExprText.expr_step ns) (ExprText.link_step ns) (ExprText.suffix_step ns) x

expr_stripped : (x : Expr-F Node Expr Link Suffix) → unplaced_expr (roll-Expr x) ≡ expr nowhere (unplaced_node x.node)
unfolding unplaced_node unplaced_expr
expr_stripped x = fold-roll-Expr Node Expr Link Suffix Unplaced.node_step Unplaced.expr_step Unplaced.link_step Unplaced.suffix_step x

expr_same : (ns : List Text) (x : Expr-F Node Expr Link Suffix) → NodeSame ns x.node → ExprSame ns (roll-Expr x)
expr_same ns x h = ap (expr_text ns) (expr_stripped x) ∙ expr_written ns (record { at = nowhere; node = unplaced_node x.node }) ∙ ap placed h ∙ sym (expr_written ns x)

link_written : (ns : List Text) (x : Link-F Node Expr Link Suffix) → link_text ns (roll-Link x) ≡ (λ asked. op_text x.op ++ expr_text ns x.right asked)
unfolding link_text expr_text
link_written ns x = fold-roll-Link Bare Writer Writer (List ℕ) (ExprText.node_step ns) (ExprText.expr_step ns) (ExprText.link_step ns) (ExprText.suffix_step ns) x

link_stripped : (x : Link-F Node Expr Link Suffix) → unplaced_link (roll-Link x) ≡ link x.op nowhere (unplaced_expr x.right)
unfolding unplaced_link unplaced_expr
link_stripped x = fold-roll-Link Node Expr Link Suffix Unplaced.node_step Unplaced.expr_step Unplaced.link_step Unplaced.suffix_step x

link_same : (ns : List Text) (x : Link-F Node Expr Link Suffix) → ExprSame ns x.right → LinkSame ns (roll-Link x)
link_same ns x h =
    ap (link_text ns) (link_stripped x) ∙ link_written ns (record { op = x.op; at = nowhere; right = unplaced_expr x.right })
    ∙ ap {B = Writer} (λ (w : Writer) (asked : Symbol). op_text x.op ++ w asked) h ∙ sym (link_written ns x)

abbrev ToldSuffix : List Text → Type 0
ToldSuffix ns = Suffix-F ((n : Node) × NodeSame ns n) ((e : Expr) × ExprSame ns e) ((l : Link) × LinkSame ns l) ((s : Suffix) × SuffixSame ns s)

abbrev layer_suffix : (ns : List Text) → ToldSuffix ns → Suffix-F Node Expr Link Suffix
layer_suffix ns = map-Suffix _ _ _ _ _ _ _ _ (λ e. e.0) (λ e. e.0) (λ e. e.0) (λ e. e.0)

suffix_written : (ns : List Text) (x : Suffix-F Node Expr Link Suffix)
    → suffix_text ns (roll-Suffix x) ≡ ExprText.suffix_step ns (map-Suffix Node Expr Link Suffix Bare Writer Writer (List ℕ) (node_bare ns) (expr_text ns) (link_text ns) (suffix_text ns) x)
unfolding node_bare expr_text link_text suffix_text
suffix_written ns x = fold-roll-Suffix Bare Writer Writer (List ℕ) (ExprText.node_step ns) (ExprText.expr_step ns) (ExprText.link_step ns) (ExprText.suffix_step ns) x

suffix_stripped : (x : Suffix-F Node Expr Link Suffix)
    → unplaced_suffix (roll-Suffix x) ≡ Unplaced.suffix_step (map-Suffix Node Expr Link Suffix Node Expr Link Suffix unplaced_node unplaced_expr unplaced_link unplaced_suffix x)
unfolding unplaced_node unplaced_expr unplaced_link unplaced_suffix
suffix_stripped x = fold-roll-Suffix Node Expr Link Suffix Unplaced.node_step Unplaced.expr_step Unplaced.link_step Unplaced.suffix_step x

suffix_same : (ns : List Text) (x : Named) (o : Option (List ((e : Expr) × ExprSame ns e))) → SuffixSame ns (roll-Suffix (layer_suffix ns (record { name = x; args = o })))
suffix_same ns x None =
    ap (suffix_text ns) (suffix_stripped (record { name = x; args = None })) ∙ suffix_written ns (record { name = named x.name nowhere; args = None })
    ∙ sym (suffix_written ns (record { name = x; args = None }))
suffix_same ns x (Some es) =
    ap (suffix_text ns) (suffix_stripped (record { name = x; args = Some (map (λ e. e.0) es) }))
    ∙ suffix_written ns (record { name = named x.name nowhere; args = Some (map unplaced_expr (map (λ e. e.0) es)) })
    ∙ ap (λ (ws : List Writer). codes "." ++ (name_text ns x.name ++ args_text ws)) (exprs_same ns es)
    ∙ sym (suffix_written ns (record { name = x; args = Some (map (λ e. e.0) es) }))

pub expr_unseen : (ns : List Text) (e : Expr) → expr_text ns (unplaced_expr e) ≡ expr_text ns e
expr_unseen ns = ind-Expr (NodeSame ns) (ExprSame ns) (LinkSame ns) (SuffixSame ns)
    (λ x y is. subst (λ z. NodeSame ns (roll-Node z)) is (node_same ns y))
    (λ x y is. subst (λ z. ExprSame ns (roll-Expr z)) is (expr_same ns (map-Expr _ _ _ _ _ _ _ _ (λ e. e.0) (λ e. e.0) (λ e. e.0) (λ e. e.0) y) y.node.1))
    (λ x y is. subst (λ z. LinkSame ns (roll-Link z)) is (link_same ns (map-Link _ _ _ _ _ _ _ _ (λ e. e.0) (λ e. e.0) (λ e. e.0) (λ e. e.0) y) y.right.1))
    (λ x y is. subst (λ z. SuffixSame ns (roll-Suffix z)) is (suffix_same ns y.name y.args))
