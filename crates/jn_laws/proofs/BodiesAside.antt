-- What bodies mention, and how many locals they have, without their places.
use Rattle.std.proofs.Common.{◌≡◌, ℕ, List, [], ◌∷◌, ◌++◌, map, refl, sym, ap, ◌∙◌, subst, Option, Some, None}
use Rattle.std.proofs.lemmas.List.{map-append}
use Rattle.jn_base.specs.declared.tree.Named.{Named}
use Rattle.jn_base.specs.declared.tree.Term.{Term}
use Rattle.jn_base.specs.declared.tree.TypeTerm.{TypeTerm}
use Rattle.jn_base.specs.declared.tree.TypeTerm.TheVariants as type
use Rattle.jn_base.specs.declared.tree.ViewTerm.{ViewTerm}
use Rattle.jn_base.specs.declared.tree.Expr.{Expr, roll-Expr}
use Rattle.jn_base.specs.declared.tree.Link.{Link, roll-Link}
use Rattle.jn_base.specs.declared.tree.Suffix.{Suffix, roll-Suffix}
use Rattle.jn_base.specs.declared.tree.Node.{Node, roll-Node}
use Rattle.jn_base.specs.declared.tree.Node.TheOpen.{Node-F, Expr-F, Link-F, Suffix-F}
use Rattle.jn_base.specs.declared.tree.Node.TheFolds.{map-Node, map-Expr, map-Link, map-Suffix, ind-Expr, fold-roll-Node, fold-roll-Expr, fold-roll-Link, fold-roll-Suffix}
use Rattle.jn_base.specs.declared.tree.Stmt.{Stmt, roll-Stmt}
use Rattle.jn_base.specs.declared.tree.Stmt.TheOpen.{Stmt-F}
use Rattle.jn_base.specs.declared.tree.Stmt.TheFolds.{map-Stmt, ind-Stmt, fold-roll-Stmt, para-roll-Stmt}
use Rattle.jn_base.specs.declared.tree.Stmt.TheVariants as stmt
use Rattle.jn_base.specs.Parts.{named, expr, link}
use Rattle.jn_base.specs.Forms.{Mention, Mentions, Shared, Adapted, Constrained, Viewed, Termed, Masked, all_of, of_type, of_view, of_node, of_expr, of_link, of_suffix, of_stmt}
use Rattle.jn_base.specs.Forms as Forms
use Rattle.jn_base.specs.Unplaced.{nowhere, unplaced_named, unplaced_term, unplaced_view, unplaced_type, unplaced_node, unplaced_expr, unplaced_link, unplaced_suffix, unplaced_given, unplaced_stmt}
use Rattle.jn_base.specs.Unplaced as Unplaced
use Rattle.jn_base.proofs.FormEquations.{at_number, at_truth, at_null, at_this, at_variable, at_new, at_super, at_post, at_inverse, at_negative, at_view, at_chain, at_expr, at_link, at_block, at_local, at_assign, at_set, at_do, at_if, at_while, at_return, at_print, at_text}
use Rattle.jn_base.specs.Atoms.{Among}
use Rattle.jn_sem.specs.Acts.{InBody, in_body, with_work, stmt_step, path_behind}
use Rattle.jn_sem.specs.LawsOfSlots.{HeadNamed}
use Rattle.jn_sem.proofs.FindingLaws.{among_of, contains_of}
use Rattle.jn_sem.proofs.NormalTypes.{map_among}
use Rattle.jn_laws.specs.LawsOfWritten.{TypeWellFormed}
use Rattle.jn_laws.proofs.Lists.{among_map}
use Rattle.jn_laws.specs.LawsOfBodies.{local_types, locals_step, BodyFormed}

-- a mention without its place
bare : Mention → Mention
bare (Shared n) = Shared (unplaced_named n)
bare (Adapted n) = Adapted (unplaced_named n)
bare Constrained = Constrained
bare Viewed = Viewed
bare (Termed t) = Termed (unplaced_term t)
bare (Masked n) = Masked (unplaced_named n)

NodeSame : Node → Type 0
NodeSame n = of_node (unplaced_node n) ≡ map bare (of_node n)

ExprSame : Expr → Type 0
ExprSame e = of_expr (unplaced_expr e) ≡ map bare (of_expr e)

LinkSame : Link → Type 0
LinkSame l = of_link (unplaced_link l) ≡ map bare (of_link l)

SuffixSame : Suffix → Type 0
SuffixSame s = of_suffix (unplaced_suffix s) ≡ map bare (of_suffix s)

abbrev Told : Type 0
Told = Node-F ((n : Node) × NodeSame n) ((e : Expr) × ExprSame e) ((l : Link) × LinkSame l) ((s : Suffix) × SuffixSame s)

abbrev layer : Told → Node-F Node Expr Link Suffix
layer = map-Node _ _ _ _ _ _ _ _ (λ e. e.0) (λ e. e.0) (λ e. e.0) (λ e. e.0)

masks_bare : (ms : List Named) → map Masked (map unplaced_named ms) ≡ map bare (map Masked ms)
unfolding bare
masks_bare [] = refl
masks_bare (m ∷ ms) = ap (λ (xs : Mentions). Masked (unplaced_named m) ∷ xs) (masks_bare ms)

terms_bare : (ts : List Term) → map Termed (map unplaced_term ts) ≡ map bare (map Termed ts)
unfolding bare
terms_bare [] = refl
terms_bare (t ∷ ts) = ap (λ (xs : Mentions). Termed (unplaced_term t) ∷ xs) (terms_bare ts)

both_bare : (xs ys us vs : Mentions) → xs ≡ map bare us → ys ≡ map bare vs → xs ++ ys ≡ map bare (us ++ vs)
both_bare xs ys us vs e f = ap (λ (zs : Mentions). zs ++ ys) e ∙ ap (λ (zs : Mentions). map bare us ++ zs) f ∙ sym (map-append bare us vs)

type_bare : (t : TypeTerm) → of_type (unplaced_type t) ≡ map bare (of_type t)
type_bare type.Int = refl
type_bare type.Bool = refl
type_bare (type.Class ts ms) = both_bare _ _ (map Termed ts) (map Masked ms) (terms_bare ts) (masks_bare ms)

view_bare : (v : ViewTerm) → of_view (unplaced_view v) ≡ map bare (of_view v)
unfolding bare
view_bare v = ap (λ (xs : Mentions). Termed (unplaced_term v.term) ∷ xs) (masks_bare v.masks)

exprs_bare : (es : List ((e : Expr) × ExprSame e)) → all_of (map of_expr (map unplaced_expr (map (λ e. e.0) es))) ≡ map bare (all_of (map of_expr (map (λ e. e.0) es)))
unfolding ExprSame
exprs_bare [] = refl
exprs_bare (e ∷ es) = both_bare _ _ (of_expr e.0) (all_of (map of_expr (map (λ e. e.0) es))) e.1 (exprs_bare es)

links_bare : (ls : List ((l : Link) × LinkSame l)) → all_of (map of_link (map unplaced_link (map (λ e. e.0) ls))) ≡ map bare (all_of (map of_link (map (λ e. e.0) ls)))
unfolding LinkSame
links_bare [] = refl
links_bare (l ∷ ls) = both_bare _ _ (of_link l.0) (all_of (map of_link (map (λ e. e.0) ls))) l.1 (links_bare ls)

suffixes_bare : (ss : List ((s : Suffix) × SuffixSame s)) → all_of (map of_suffix (map unplaced_suffix (map (λ e. e.0) ss))) ≡ map bare (all_of (map of_suffix (map (λ e. e.0) ss)))
unfolding SuffixSame
suffixes_bare [] = refl
suffixes_bare (s ∷ ss) = both_bare _ _ (of_suffix s.0) (all_of (map of_suffix (map (λ e. e.0) ss))) s.1 (suffixes_bare ss)

-- ---- one level deep

abbrev mentioned : Node-F Node Expr Link Suffix → Mentions
mentioned f = Forms.node_step (map-Node _ _ _ _ _ _ _ _ of_node of_expr of_link of_suffix f)

mentioned_roll : (f : Node-F Node Expr Link Suffix) → of_node (roll-Node f) ≡ mentioned f
unfolding of_node of_expr of_link of_suffix
mentioned_roll f = fold-roll-Node Mentions Mentions Mentions Mentions Forms.node_step Forms.expr_step Forms.link_step Forms.suffix_step f

abbrev stripped : Node-F Node Expr Link Suffix → Node
stripped f = Unplaced.node_step (map-Node Node Expr Link Suffix Node Expr Link Suffix unplaced_node unplaced_expr unplaced_link unplaced_suffix f)

stripped_roll : (f : Node-F Node Expr Link Suffix) → unplaced_node (roll-Node f) ≡ stripped f
unfolding unplaced_node unplaced_expr unplaced_link unplaced_suffix
stripped_roll f = fold-roll-Node Node Expr Link Suffix Unplaced.node_step Unplaced.expr_step Unplaced.link_step Unplaced.suffix_step f

layer_same : (y : Told) → of_node (stripped (layer y)) ≡ map bare (mentioned (layer y))
unfolding ExprSame bare
layer_same (Node-F.Int n) = at_number n
layer_same (Node-F.Bool b) = at_truth b
layer_same Node-F.Null = at_null
layer_same Node-F.This = at_this
layer_same (Node-F.Var x) = at_variable x
layer_same (Node-F.New t es) = at_new (unplaced_term t) (map unplaced_expr (map (λ e. e.0) es)) ∙ ap (λ (xs : Mentions). Termed (unplaced_term t) ∷ xs) (exprs_bare es)
layer_same (Node-F.Super t x es) =
    at_super (unplaced_term t) (unplaced_named x) (map unplaced_expr (map (λ e. e.0) es)) ∙ ap (λ (xs : Mentions). Termed (unplaced_term t) ∷ xs) (exprs_bare es)
layer_same (Node-F.Post e ss) =
    at_post (unplaced_expr e.0) (map unplaced_suffix (map (λ e. e.0) ss)) ∙ both_bare _ _ (of_expr e.0) (all_of (map of_suffix (map (λ e. e.0) ss))) e.1 (suffixes_bare ss)
layer_same (Node-F.Not e) = at_inverse (unplaced_expr e.0) ∙ e.1
layer_same (Node-F.Neg e) = at_negative (unplaced_expr e.0) ∙ e.1
layer_same (Node-F.View v e) = at_view (unplaced_view v) (unplaced_expr e.0) ∙ ap (λ (xs : Mentions). Viewed ∷ xs) (both_bare _ _ (of_view v) (of_expr e.0) (view_bare v) e.1)
layer_same (Node-F.Chain l e ls) =
    at_chain l (unplaced_expr e.0) (map unplaced_link (map (λ e. e.0) ls)) ∙ both_bare _ _ (of_expr e.0) (all_of (map of_link (map (λ e. e.0) ls))) e.1 (links_bare ls)

node_same : (y : Told) → NodeSame (roll-Node (layer y))
unfolding NodeSame
node_same y = ap of_node (stripped_roll (layer y)) ∙ layer_same y ∙ sym (ap (map bare) (mentioned_roll (layer y)))

expr_stripped : (x : Expr-F Node Expr Link Suffix) → unplaced_expr (roll-Expr x) ≡ expr nowhere (unplaced_node x.node)
unfolding unplaced_node unplaced_expr
expr_stripped x = fold-roll-Expr Node Expr Link Suffix Unplaced.node_step Unplaced.expr_step Unplaced.link_step Unplaced.suffix_step x

expr_same : (x : Expr-F Node Expr Link Suffix) → NodeSame x.node → ExprSame (roll-Expr x)
unfolding NodeSame ExprSame
expr_same x h = ap of_expr (expr_stripped x) ∙ at_expr (expr nowhere (unplaced_node x.node)) ∙ h ∙ sym (ap (map bare) (at_expr (roll-Expr x)))

link_stripped : (x : Link-F Node Expr Link Suffix) → unplaced_link (roll-Link x) ≡ link x.op nowhere (unplaced_expr x.right)
unfolding unplaced_link unplaced_expr
link_stripped x = fold-roll-Link Node Expr Link Suffix Unplaced.node_step Unplaced.expr_step Unplaced.link_step Unplaced.suffix_step x

link_same : (x : Link-F Node Expr Link Suffix) → ExprSame x.right → LinkSame (roll-Link x)
unfolding ExprSame LinkSame
link_same x h = ap of_link (link_stripped x) ∙ at_link (link x.op nowhere (unplaced_expr x.right)) ∙ h ∙ sym (ap (map bare) (at_link (roll-Link x)))

abbrev ToldSuffix : Type 0
ToldSuffix = Suffix-F ((n : Node) × NodeSame n) ((e : Expr) × ExprSame e) ((l : Link) × LinkSame l) ((s : Suffix) × SuffixSame s)

abbrev layer_suffix : ToldSuffix → Suffix-F Node Expr Link Suffix
layer_suffix = map-Suffix _ _ _ _ _ _ _ _ (λ e. e.0) (λ e. e.0) (λ e. e.0) (λ e. e.0)

suffix_mentioned : (x : Suffix-F Node Expr Link Suffix) → of_suffix (roll-Suffix x) ≡ Forms.suffix_step (map-Suffix _ _ _ _ _ _ _ _ of_node of_expr of_link of_suffix x)
unfolding of_node of_expr of_link of_suffix
suffix_mentioned x = fold-roll-Suffix Mentions Mentions Mentions Mentions Forms.node_step Forms.expr_step Forms.link_step Forms.suffix_step x

suffix_stripped : (x : Suffix-F Node Expr Link Suffix)
    → unplaced_suffix (roll-Suffix x) ≡ Unplaced.suffix_step (map-Suffix Node Expr Link Suffix Node Expr Link Suffix unplaced_node unplaced_expr unplaced_link unplaced_suffix x)
unfolding unplaced_node unplaced_expr unplaced_link unplaced_suffix
suffix_stripped x = fold-roll-Suffix Node Expr Link Suffix Unplaced.node_step Unplaced.expr_step Unplaced.link_step Unplaced.suffix_step x

suffix_same : (x : Named) (o : Option (List ((e : Expr) × ExprSame e))) → SuffixSame (roll-Suffix (layer_suffix (record { name = x; args = o })))
unfolding SuffixSame
suffix_same x None =
    ap of_suffix (suffix_stripped (record { name = x; args = None })) ∙ suffix_mentioned (record { name = named x.name nowhere; args = None })
    ∙ sym (ap (map bare) (suffix_mentioned (record { name = x; args = None })))
suffix_same x (Some es) =
    ap of_suffix (suffix_stripped (record { name = x; args = Some (map (λ e. e.0) es) }))
    ∙ suffix_mentioned (record { name = named x.name nowhere; args = Some (map unplaced_expr (map (λ e. e.0) es)) })
    ∙ exprs_bare es
    ∙ sym (ap (map bare) (suffix_mentioned (record { name = x; args = Some (map (λ e. e.0) es) })))

expr_bare : (e : Expr) → of_expr (unplaced_expr e) ≡ map bare (of_expr e)
unfolding ExprSame
expr_bare = ind-Expr NodeSame ExprSame LinkSame SuffixSame
    (λ x y is. subst (λ z. NodeSame (roll-Node z)) is (node_same y))
    (λ x y is. subst (λ z. ExprSame (roll-Expr z)) is (expr_same (map-Expr _ _ _ _ _ _ _ _ (λ e. e.0) (λ e. e.0) (λ e. e.0) (λ e. e.0) y) y.node.1))
    (λ x y is. subst (λ z. LinkSame (roll-Link z)) is (link_same (map-Link _ _ _ _ _ _ _ _ (λ e. e.0) (λ e. e.0) (λ e. e.0) (λ e. e.0) y) y.right.1))
    (λ x y is. subst (λ z. SuffixSame (roll-Suffix z)) is (suffix_same y.name y.args))

-- ---- statements

record StmtSame (s : Stmt) : Type 0 where
  mentions : of_stmt (unplaced_stmt s) ≡ map bare (of_stmt s)
  locals : local_types (unplaced_stmt s) ≡ map unplaced_type (local_types s)
  behind : (n : ℕ) → (in_body (unplaced_stmt s)).path_after n ≡ (in_body s).path_after n

abbrev ToldStmt : Type 0
ToldStmt = Stmt-F ((s : Stmt) × StmtSame s)

abbrev layer_stmt : ToldStmt → Stmt-F Stmt
layer_stmt = map-Stmt _ _ (λ e. e.0)

abbrev stmt_stripped : Stmt-F Stmt → Stmt
stmt_stripped f = Unplaced.stmt_step (map-Stmt Stmt Stmt unplaced_stmt f)

stmt_roll : (f : Stmt-F Stmt) → unplaced_stmt (roll-Stmt f) ≡ stmt_stripped f
unfolding unplaced_stmt
stmt_roll f = fold-roll-Stmt Stmt Unplaced.stmt_step f

stmt_mentioned : (f : Stmt-F Stmt) → of_stmt (roll-Stmt f) ≡ Forms.stmt_step (map-Stmt Stmt Mentions of_stmt f)
unfolding of_stmt
stmt_mentioned f = fold-roll-Stmt Mentions Forms.stmt_step f

stmt_locals : (f : Stmt-F Stmt) → local_types (roll-Stmt f) ≡ locals_step (map-Stmt Stmt (List TypeTerm) local_types f)
unfolding local_types
stmt_locals f = fold-roll-Stmt (List TypeTerm) locals_step f

stmt_behind : (f : Stmt-F Stmt) (n : ℕ) → (in_body (roll-Stmt f)).path_after n ≡ (stmt_step (map-Stmt Stmt (Stmt × InBody) with_work f)).path_after n
stmt_behind f n = ap (λ (x : InBody). x.path_after n) (para-roll-Stmt InBody stmt_step f)

stmts_bare : (ss : List ((s : Stmt) × StmtSame s)) → all_of (map of_stmt (map unplaced_stmt (map (λ e. e.0) ss))) ≡ map bare (all_of (map of_stmt (map (λ e. e.0) ss)))
stmts_bare [] = refl
stmts_bare (s ∷ ss) = both_bare _ _ (of_stmt s.0) (all_of (map of_stmt (map (λ e. e.0) ss))) s.1.mentions (stmts_bare ss)

both_types : (xs ys us vs : List TypeTerm) → xs ≡ map unplaced_type us → ys ≡ map unplaced_type vs → xs ++ ys ≡ map unplaced_type (us ++ vs)
both_types xs ys us vs e f = ap (λ (zs : List TypeTerm). zs ++ ys) e ∙ ap (λ (zs : List TypeTerm). map unplaced_type us ++ zs) f ∙ sym (map-append unplaced_type us vs)

stmts_types : (ss : List ((s : Stmt) × StmtSame s)) → all_of (map local_types (map unplaced_stmt (map (λ e. e.0) ss))) ≡ map unplaced_type (all_of (map local_types (map (λ e. e.0) ss)))
stmts_types [] = refl
stmts_types (s ∷ ss) = both_types _ _ (local_types s.0) (all_of (map local_types (map (λ e. e.0) ss))) s.1.locals (stmts_types ss)

stmts_behind : (ss : List ((s : Stmt) × StmtSame s)) (n : ℕ) → path_behind (map unplaced_stmt (map (λ e. e.0) ss)) n ≡ path_behind (map (λ e. e.0) ss) n
stmts_behind [] n = refl
stmts_behind (s ∷ ss) n = ap (path_behind (map unplaced_stmt (map (λ e. e.0) ss))) (s.1.behind n) ∙ stmts_behind ss ((in_body s.0).path_after n)

mentions_same : (y : ToldStmt) → of_stmt (stmt_stripped (layer_stmt y)) ≡ map bare (Forms.stmt_step (map-Stmt Stmt Mentions of_stmt (layer_stmt y)))
mentions_same (Stmt-F.Block ss) = at_block (map unplaced_stmt (map (λ e. e.0) ss)) ∙ stmts_bare ss
mentions_same (Stmt-F.Local fixed t x e) = at_local fixed (unplaced_type t) (unplaced_named x) (unplaced_expr e) ∙ both_bare _ _ (of_type t) (of_expr e) (type_bare t) (expr_bare e)
mentions_same (Stmt-F.Assign x e) = at_assign (unplaced_named x) (unplaced_expr e) ∙ expr_bare e
mentions_same (Stmt-F.Set t x e) = at_set (unplaced_expr t) (unplaced_named x) (unplaced_expr e) ∙ both_bare _ _ (of_expr t) (of_expr e) (expr_bare t) (expr_bare e)
mentions_same (Stmt-F.Do e) = at_do (unplaced_expr e) ∙ expr_bare e
mentions_same (Stmt-F.If e ss rs p) =
    at_if (unplaced_expr e) (map unplaced_stmt (map (λ e. e.0) ss)) (map unplaced_stmt (map (λ e. e.0) rs)) nowhere
    ∙ both_bare _ _ (of_expr e) (all_of (map of_stmt (map (λ e. e.0) ss)) ++ all_of (map of_stmt (map (λ e. e.0) rs))) (expr_bare e)
    (both_bare _ _ (all_of (map of_stmt (map (λ e. e.0) ss))) (all_of (map of_stmt (map (λ e. e.0) rs))) (stmts_bare ss) (stmts_bare rs))
mentions_same (Stmt-F.While e ss p) =
    at_while (unplaced_expr e) (map unplaced_stmt (map (λ e. e.0) ss)) nowhere ∙ both_bare _ _ (of_expr e) (all_of (map of_stmt (map (λ e. e.0) ss))) (expr_bare e) (stmts_bare ss)
mentions_same (Stmt-F.Return None p) = at_return None nowhere
mentions_same (Stmt-F.Return (Some e) p) = at_return (Some (unplaced_expr e)) nowhere ∙ expr_bare e
mentions_same (Stmt-F.Print e p) = at_print (unplaced_expr e) nowhere ∙ expr_bare e
mentions_same (Stmt-F.PrintText n p) = at_text n nowhere

types_from : (f : Stmt-F Stmt) (s : Stmt) → roll-Stmt f ≡ s → local_types s ≡ locals_step (map-Stmt Stmt (List TypeTerm) local_types f)
types_from f s e = ap local_types (sym e) ∙ stmt_locals f

types_same : (y : ToldStmt) → local_types (stmt_stripped (layer_stmt y)) ≡ map unplaced_type (locals_step (map-Stmt Stmt (List TypeTerm) local_types (layer_stmt y)))
types_same (Stmt-F.Block ss) = types_from _ _ (stmt.rolls-Block (map unplaced_stmt (map (λ e. e.0) ss))) ∙ stmts_types ss
types_same (Stmt-F.Local fixed t x e) = types_from _ _ (stmt.rolls-Local fixed (unplaced_type t) (unplaced_named x) (unplaced_expr e))
types_same (Stmt-F.Assign x e) = types_from _ _ (stmt.rolls-Assign (unplaced_named x) (unplaced_expr e))
types_same (Stmt-F.Set t x e) = types_from _ _ (stmt.rolls-Set (unplaced_expr t) (unplaced_named x) (unplaced_expr e))
types_same (Stmt-F.Do e) = types_from _ _ (stmt.rolls-Do (unplaced_expr e))
types_same (Stmt-F.If e ss rs p) =
    types_from _ _ (stmt.rolls-If (unplaced_expr e) (map unplaced_stmt (map (λ e. e.0) ss)) (map unplaced_stmt (map (λ e. e.0) rs)) nowhere)
    ∙ both_types _ _ (all_of (map local_types (map (λ e. e.0) ss))) (all_of (map local_types (map (λ e. e.0) rs))) (stmts_types ss) (stmts_types rs)
types_same (Stmt-F.While e ss p) = types_from _ _ (stmt.rolls-While (unplaced_expr e) (map unplaced_stmt (map (λ e. e.0) ss)) nowhere) ∙ stmts_types ss
types_same (Stmt-F.Return e p) = types_from _ _ (stmt.rolls-Return (unplaced_given e) nowhere)
types_same (Stmt-F.Print e p) = types_from _ _ (stmt.rolls-Print (unplaced_expr e) nowhere)
types_same (Stmt-F.PrintText n p) = types_from _ _ (stmt.rolls-PrintText n nowhere)

behind_from : (f : Stmt-F Stmt) (s : Stmt) (n : ℕ) → roll-Stmt f ≡ s → (in_body s).path_after n ≡ (stmt_step (map-Stmt Stmt (Stmt × InBody) with_work f)).path_after n
behind_from f s n e = ap (λ (t : Stmt). (in_body t).path_after n) (sym e) ∙ stmt_behind f n

behind_same : (y : ToldStmt) (n : ℕ) → (in_body (stmt_stripped (layer_stmt y))).path_after n ≡ (stmt_step (map-Stmt Stmt (Stmt × InBody) with_work (layer_stmt y))).path_after n
behind_same (Stmt-F.Block ss) n = behind_from _ _ n (stmt.rolls-Block (map unplaced_stmt (map (λ e. e.0) ss))) ∙ stmts_behind ss n
behind_same (Stmt-F.Local fixed t x e) n = behind_from _ _ n (stmt.rolls-Local fixed (unplaced_type t) (unplaced_named x) (unplaced_expr e))
behind_same (Stmt-F.Assign x e) n = behind_from _ _ n (stmt.rolls-Assign (unplaced_named x) (unplaced_expr e))
behind_same (Stmt-F.Set t x e) n = behind_from _ _ n (stmt.rolls-Set (unplaced_expr t) (unplaced_named x) (unplaced_expr e))
behind_same (Stmt-F.Do e) n = behind_from _ _ n (stmt.rolls-Do (unplaced_expr e))
behind_same (Stmt-F.If e ss rs p) n =
    behind_from _ _ n (stmt.rolls-If (unplaced_expr e) (map unplaced_stmt (map (λ e. e.0) ss)) (map unplaced_stmt (map (λ e. e.0) rs)) nowhere)
    ∙ ap (path_behind (map unplaced_stmt (map (λ e. e.0) rs))) (stmts_behind ss n) ∙ stmts_behind rs (path_behind (map (λ e. e.0) ss) n)
behind_same (Stmt-F.While e ss p) n = behind_from _ _ n (stmt.rolls-While (unplaced_expr e) (map unplaced_stmt (map (λ e. e.0) ss)) nowhere) ∙ stmts_behind ss n
behind_same (Stmt-F.Return e p) n = behind_from _ _ n (stmt.rolls-Return (unplaced_given e) nowhere)
behind_same (Stmt-F.Print e p) n = behind_from _ _ n (stmt.rolls-Print (unplaced_expr e) nowhere)
behind_same (Stmt-F.PrintText t p) n = behind_from _ _ n (stmt.rolls-PrintText t nowhere)

stmt_same : (y : ToldStmt) → StmtSame (roll-Stmt (layer_stmt y))
stmt_same y = record {
  mentions = ap of_stmt (stmt_roll (layer_stmt y)) ∙ mentions_same y ∙ sym (ap (map bare) (stmt_mentioned (layer_stmt y)));
  locals = ap local_types (stmt_roll (layer_stmt y)) ∙ types_same y ∙ sym (ap (map unplaced_type) (stmt_locals (layer_stmt y)));
  behind = λ n. ap (λ (s : Stmt). (in_body s).path_after n) (stmt_roll (layer_stmt y)) ∙ behind_same y n ∙ sym (stmt_behind (layer_stmt y) n);
}

stmt_bare : (s : Stmt) → StmtSame s
stmt_bare = ind-Stmt StmtSame (λ x y is. subst (λ z. StmtSame (roll-Stmt z)) is (stmt_same y))

-- ---- bodies

told : (ss : List Stmt) → List ((s : Stmt) × StmtSame s)
told [] = []
told (s ∷ ss) = (s, stmt_bare s) ∷ told ss

told_are : (ss : List Stmt) → map (λ (e : (s : Stmt) × StmtSame s). e.0) (told ss) ≡ ss
unfolding told
told_are [] = refl
told_are (s ∷ ss) = ap (λ (us : List Stmt). s ∷ us) (told_are ss)

all_bare : (ss : List Stmt) → all_of (map of_stmt (map unplaced_stmt ss)) ≡ map bare (all_of (map of_stmt ss))
all_bare ss = subst (λ (us : List Stmt). all_of (map of_stmt (map unplaced_stmt us)) ≡ map bare (all_of (map of_stmt us))) (told_are ss) (stmts_bare (told ss))

all_types : (ss : List Stmt) → all_of (map local_types (map unplaced_stmt ss)) ≡ map unplaced_type (all_of (map local_types ss))
all_types ss = subst (λ (us : List Stmt). all_of (map local_types (map unplaced_stmt us)) ≡ map unplaced_type (all_of (map local_types us))) (told_are ss) (stmts_types (told ss))

all_behind : (ss : List Stmt) (n : ℕ) → path_behind (map unplaced_stmt ss) n ≡ path_behind ss n
all_behind ss n = subst (λ (us : List Stmt). path_behind (map unplaced_stmt us) n ≡ path_behind us n) (told_are ss) (stmts_behind (told ss) n)

-- a mention without its place that is a term is that of a term
bare_term : (m : Mention) (t : Term) → bare m ≡ Termed t → (u : Term) × (m ≡ Termed u) × (unplaced_term u ≡ t)
unfolding bare
bare_term (Shared n) t e = cc
bare_term (Adapted n) t e = cc
bare_term Constrained t e = cc
bare_term Viewed t e = cc
bare_term (Masked n) t e = cc
bare_term (Termed u) t e = (u, refl, same (unplaced_term u) t e) where
  same : (a b : Term) → Termed a ≡ Termed b → a ≡ b
  same a b e = cc

module _ (xs ys : List Stmt) (e : map unplaced_stmt xs ≡ map unplaced_stmt ys) where
  mentions_are : map bare (all_of (map of_stmt ys)) ≡ map bare (all_of (map of_stmt xs))
  mentions_are = sym (all_bare ys) ∙ ap (λ (ss : List Stmt). all_of (map of_stmt ss)) (sym e) ∙ all_bare xs

  types_are : map unplaced_type (all_of (map local_types ys)) ≡ map unplaced_type (all_of (map local_types xs))
  types_are = sym (all_types ys) ∙ ap (λ (ss : List Stmt). all_of (map local_types ss)) (sym e) ∙ all_types xs

  pub bodies_kept : ((t u : TypeTerm) → unplaced_type t ≡ unplaced_type u → TypeWellFormed t → TypeWellFormed u) → BodyFormed xs → BodyFormed ys
  unfolding bare
  bodies_kept kept f = record {
    terms = λ t c. let m = among_map bare (all_of (map of_stmt ys)) (Termed t) (among_of (all_of (map of_stmt ys)) (Termed t) c) in
        let r = map_among bare (all_of (map of_stmt xs)) (bare (Termed t)) (subst (λ (zs : Mentions). Among zs (bare (Termed t))) mentions_are m) in
        head t r.0 r.1 r.2;
    locals = λ t c. let m = among_map unplaced_type (all_of (map local_types ys)) t (among_of (all_of (map local_types ys)) t c) in
        let r = map_among unplaced_type (all_of (map local_types xs)) (unplaced_type t) (subst (λ (zs : List TypeTerm). Among zs (unplaced_type t)) types_are m) in
        kept r.0 t r.2 (f.locals r.0 (contains_of (all_of (map local_types xs)) r.0 r.1));
  } where
    head : (t : Term) (m : Mention) → Among (all_of (map of_stmt xs)) m → bare m ≡ bare (Termed t) → HeadNamed t.head
    head t m a i =
        let u = bare_term m (unplaced_term t) i in
        subst HeadNamed (ap (λ (z : Term). z.head) u.2) (f.terms u.0 (contains_of (all_of (map of_stmt xs)) (Termed u.0) (subst (Among (all_of (map of_stmt xs))) u.1 a)))

  pub locals_kept : (n : ℕ) → path_behind ys n ≡ path_behind xs n
  locals_kept n = sym (all_behind ys n) ∙ ap (λ (ss : List Stmt). path_behind ss n) (sym e) ∙ all_behind xs n
