-- Call statements and texts, without their places.
use Rattle.std.proofs.Common.{◌≡◌, ◌↔◌, ℕ, List, [], ◌∷◌, ◌++◌, map, refl, sym, ap, ◌∙◌, subst, Option, Some, None}
use Rattle.std.specs.Prelude.{IsSome, slice_get}
use Rattle.std.proofs.lemmas.List.{map-append}
use Rattle.jn_base.specs.declared.tree.Named.{Named}
use Rattle.jn_base.specs.declared.tree.Text.{Text}
use Rattle.jn_base.specs.declared.tree.Program.{Program}
use Rattle.jn_base.specs.declared.tree.Expr.{Expr}
use Rattle.jn_base.specs.declared.tree.Link.{Link}
use Rattle.jn_base.specs.declared.tree.Suffix.{Suffix, out-Suffix, out-roll-Suffix}
use Rattle.jn_base.specs.declared.tree.Node.{Node, out-Node}
use Rattle.jn_base.specs.declared.tree.Node.TheOpen.{Node-F, Suffix-F}
use Rattle.jn_base.specs.declared.tree.Node.TheFolds.{map-Node, map-Suffix, fold_out-Node, fold_out-Expr, fold_out-Suffix}
use Rattle.jn_base.specs.declared.tree.Node.TheVariants.{outs-Int, outs-Bool, outs-Null, outs-This, outs-Var, outs-New, outs-Super, outs-Post, outs-Not, outs-Neg, outs-View, outs-Chain}
use Rattle.jn_base.specs.declared.tree.Stmt.{Stmt, roll-Stmt}
use Rattle.jn_base.specs.declared.tree.Stmt.TheOpen.{Stmt-F}
use Rattle.jn_base.specs.declared.tree.Stmt.TheFolds.{map-Stmt, ind-Stmt, fold-roll-Stmt}
use Rattle.jn_base.specs.declared.tree.Stmt.TheVariants as stmt
use Rattle.jn_base.specs.Forms.{all_of}
use Rattle.jn_base.specs.Parts.{named, expr}
use Rattle.jn_base.specs.Atoms.{Among}
use Rattle.jn_base.specs.GrammarExpr.{EndsInCall}
use Rattle.jn_base.specs.Unplaced.{nowhere, unplaced_named, unplaced_term, unplaced_view, unplaced_type, unplaced_node, unplaced_expr, unplaced_link, unplaced_suffix, unplaced_given, unplaced_stmt}
use Rattle.jn_base.specs.Unplaced as Unplaced
use Rattle.jn_sem.proofs.FindingLaws.{among_of, contains_of}
use Rattle.jn_sem.proofs.NormalTypes.{map_among}
use Rattle.jn_laws.proofs.Lists.{among_map}
use Rattle.jn_body_laws.specs.BodyForms.{CallNode, IsCallForm, Use, Calls, Prints, uses_step, uses, UseFormed}
use Rattle.jn_body_laws.proofs.ListedForms.{uses_rolled, UsesFormed}

-- ---- calls

some_there : {A : Type 0} (a : A) → IsSome (Some a)
some_there a = refl

some_kept : (x : Named) (o : Option (List Expr)) → IsSome o ↔ IsSome (out-Suffix (Unplaced.suffix_step
    (map-Suffix Node Expr Link Suffix Node Expr Link Suffix unplaced_node unplaced_expr unplaced_link unplaced_suffix
    (record { name = x; args = o })))).args
some_kept x None =
    let e = out-roll-Suffix (record { name = named x.name nowhere; args = None }) in (
      (λ c. subst (λ (y : Suffix-F Node Expr Link Suffix). IsSome y.args) (sym e) c),
      (λ c. subst (λ (y : Suffix-F Node Expr Link Suffix). IsSome y.args) e c),
    )
some_kept x (Some es) =
    let e = out-roll-Suffix (record { name = named x.name nowhere; args = Some (map unplaced_expr es) }) in (
      (λ c. subst (λ (y : Suffix-F Node Expr Link Suffix). IsSome y.args) (sym e)
          (some_there (map unplaced_expr es))),
      (λ c. some_there es),
    )

suffix_is : (s : Suffix) → unplaced_suffix s ≡ Unplaced.suffix_step
    (map-Suffix Node Expr Link Suffix Node Expr Link Suffix unplaced_node unplaced_expr unplaced_link unplaced_suffix
    (out-Suffix s))
unfolding unplaced_node unplaced_expr unplaced_link unplaced_suffix
suffix_is s = fold_out-Suffix Node Expr Link Suffix Unplaced.node_step Unplaced.expr_step Unplaced.link_step
    Unplaced.suffix_step s

args_kept : (s : Suffix) → IsSome (out-Suffix s).args ↔ IsSome (out-Suffix (unplaced_suffix s)).args
args_kept s = subst (λ (z : Suffix). IsSome (out-Suffix s).args ↔ IsSome (out-Suffix z).args) (sym (suffix_is s))
    (some_kept (out-Suffix s).name (out-Suffix s).args)

ends_kept : (ss : List Suffix) → EndsInCall ss ↔ EndsInCall (map unplaced_suffix ss)
ends_kept [] = ((λ c. c), (λ c. c))
ends_kept (s ∷ []) = args_kept s
ends_kept (s ∷ (r ∷ ss)) = ends_kept (r ∷ ss)

-- a node that is no call
no_call : (n : Node) (f : Node-F Node Expr Link Suffix) → out-Node n ≡ f → (CallNode f → ⊥) → ⊥ ↔ CallNode (out-Node n)
no_call n f e h = ((λ c. absurd c), (λ c. absurd (h (subst CallNode e c))))

stripped_call : (f : Node-F Node Expr Link Suffix) → CallNode f ↔ CallNode (out-Node (Unplaced.node_step
    (map-Node Node Expr Link Suffix Node Expr Link Suffix unplaced_node unplaced_expr unplaced_link unplaced_suffix f)))
stripped_call (Node-F.Int z) = no_call _ _ (outs-Int z) (λ c. c)
stripped_call (Node-F.Bool b) = no_call _ _ (outs-Bool b) (λ c. c)
stripped_call Node-F.Null = no_call _ _ outs-Null (λ c. c)
stripped_call Node-F.This = no_call _ _ outs-This (λ c. c)
stripped_call (Node-F.Var x) = no_call _ _ (outs-Var x) (λ c. c)
stripped_call (Node-F.New t es) =
    ((λ c. subst CallNode (sym (outs-New (unplaced_term t) (map unplaced_expr es))) tt), (λ c. tt))
stripped_call (Node-F.Super t m es) = (
  (λ c. subst CallNode (sym (outs-Super (unplaced_term t) (unplaced_named m) (map unplaced_expr es))) tt),
  (λ c. tt),
)
stripped_call (Node-F.Post e ss) =
    let k = ends_kept ss in
    let o = outs-Post (unplaced_expr e) (map unplaced_suffix ss) in
    ((λ c. subst CallNode (sym o) (k.0 c)), (λ c. k.1 (subst CallNode o c)))
stripped_call (Node-F.Not e) = no_call _ _ (outs-Not (unplaced_expr e)) (λ c. c)
stripped_call (Node-F.Neg e) = no_call _ _ (outs-Neg (unplaced_expr e)) (λ c. c)
stripped_call (Node-F.View v e) = no_call _ _ (outs-View (unplaced_view v) (unplaced_expr e)) (λ c. c)
stripped_call (Node-F.Chain l e ls) =
    no_call _ _ (outs-Chain l (unplaced_expr e) (map unplaced_link ls)) (λ c. c)

node_is : (n : Node) → unplaced_node n ≡ Unplaced.node_step
    (map-Node Node Expr Link Suffix Node Expr Link Suffix unplaced_node unplaced_expr unplaced_link unplaced_suffix
    (out-Node n))
unfolding unplaced_node unplaced_expr unplaced_link unplaced_suffix
node_is n = fold_out-Node Node Expr Link Suffix Unplaced.node_step Unplaced.expr_step Unplaced.link_step
    Unplaced.suffix_step n

node_kept : (n : Node) → CallNode (out-Node n) ↔ CallNode (out-Node (unplaced_node n))
node_kept n = subst (λ (z : Node). CallNode (out-Node n) ↔ CallNode (out-Node z)) (sym (node_is n))
    (stripped_call (out-Node n))

expr_is : (e : Expr) → unplaced_expr e ≡ expr nowhere (unplaced_node e.node)
unfolding unplaced_node unplaced_expr
expr_is e = fold_out-Expr Node Expr Link Suffix Unplaced.node_step Unplaced.expr_step Unplaced.link_step
    Unplaced.suffix_step e

call_kept : (e : Expr) → IsCallForm e ↔ IsCallForm (unplaced_expr e)
call_kept e = subst (λ (z : Expr). IsCallForm e ↔ IsCallForm z) (sym (expr_is e)) (node_kept e.node)

same_call : (e f : Expr) → unplaced_expr e ≡ unplaced_expr f → IsCallForm e → IsCallForm f
same_call e f i c = (call_kept f).1 (subst IsCallForm i ((call_kept e).0 c))

-- ---- what is used

bare_use : Use → Use
bare_use (Calls e) = Calls (unplaced_expr e)
bare_use (Prints n) = Prints n

UsesSame : Stmt → Type 0
UsesSame s = uses (unplaced_stmt s) ≡ map bare_use (uses s)

abbrev Told : Type 0
Told = Stmt-F ((s : Stmt) × UsesSame s)

abbrev layer : Told → Stmt-F Stmt
layer = map-Stmt _ _ (λ e. e.0)

abbrev trees_of : List ((s : Stmt) × UsesSame s) → List Stmt
trees_of ss = map (λ e. e.0) ss

both_same : (xs ys us vs : List Use) → xs ≡ map bare_use us → ys ≡ map bare_use vs → xs ++ ys ≡ map bare_use (us ++ vs)
both_same xs ys us vs e f =
    ap (λ (zs : List Use). zs ++ ys) e ∙ ap (λ (zs : List Use). map bare_use us ++ zs) f
    ∙ sym (map-append bare_use us vs)

stmts_same : (ss : List ((s : Stmt) × UsesSame s)) → all_of (map uses (map unplaced_stmt (trees_of ss)))
    ≡ map bare_use (all_of (map uses (trees_of ss)))
unfolding UsesSame
stmts_same [] = refl
stmts_same (s ∷ ss) = both_same _ _ (uses s.0) (all_of (map uses (trees_of ss))) s.1 (stmts_same ss)

abbrev stripped : Stmt-F Stmt → Stmt
stripped f = Unplaced.stmt_step (map-Stmt Stmt Stmt unplaced_stmt f)

stripped_roll : (f : Stmt-F Stmt) → unplaced_stmt (roll-Stmt f) ≡ stripped f
unfolding unplaced_stmt
stripped_roll f = fold-roll-Stmt Stmt Unplaced.stmt_step f

layer_same : (y : Told) → uses (stripped (layer y)) ≡ map bare_use
    (uses_step (map-Stmt Stmt (List Use) uses (layer y)))
unfolding bare_use
layer_same (Stmt-F.Block ss) = uses_rolled _ _ (stmt.rolls-Block (map unplaced_stmt (trees_of ss))) ∙ stmts_same ss
layer_same (Stmt-F.Local fixed t x e) =
    uses_rolled _ _ (stmt.rolls-Local fixed (unplaced_type t) (unplaced_named x) (unplaced_expr e))
layer_same (Stmt-F.Assign x e) = uses_rolled _ _ (stmt.rolls-Assign (unplaced_named x) (unplaced_expr e))
layer_same (Stmt-F.Set t x e) =
    uses_rolled _ _ (stmt.rolls-Set (unplaced_expr t) (unplaced_named x) (unplaced_expr e))
layer_same (Stmt-F.Do e) = uses_rolled _ _ (stmt.rolls-Do (unplaced_expr e))
layer_same (Stmt-F.If e ss rs p) =
    uses_rolled _ _ (stmt.rolls-If (unplaced_expr e) (map unplaced_stmt (trees_of ss))
    (map unplaced_stmt (trees_of rs)) nowhere)
    ∙ both_same _ _ (all_of (map uses (trees_of ss))) (all_of (map uses (trees_of rs))) (stmts_same ss)
    (stmts_same rs)
layer_same (Stmt-F.While e ss p) =
    uses_rolled _ _ (stmt.rolls-While (unplaced_expr e) (map unplaced_stmt (trees_of ss)) nowhere) ∙ stmts_same ss
layer_same (Stmt-F.Return e p) = uses_rolled _ _ (stmt.rolls-Return (unplaced_given e) nowhere)
layer_same (Stmt-F.Print e p) = uses_rolled _ _ (stmt.rolls-Print (unplaced_expr e) nowhere)
layer_same (Stmt-F.PrintText n p) = uses_rolled _ _ (stmt.rolls-PrintText n nowhere)

stmt_same : (y : Told) → UsesSame (roll-Stmt (layer y))
unfolding UsesSame
stmt_same y = ap uses (stripped_roll (layer y)) ∙ layer_same y
    ∙ sym (ap (map bare_use) (uses_rolled (layer y) (roll-Stmt (layer y)) refl))

stmt_bare : (s : Stmt) → UsesSame s
stmt_bare = ind-Stmt UsesSame (λ x y is. subst (λ z. UsesSame (roll-Stmt z)) is (stmt_same y))

told : List Stmt → List ((s : Stmt) × UsesSame s)
told [] = []
told (s ∷ ss) = (s, stmt_bare s) ∷ told ss

told_are : (ss : List Stmt) → trees_of (told ss) ≡ ss
unfolding told
told_are [] = refl
told_are (s ∷ ss) = ap (λ (us : List Stmt). s ∷ us) (told_are ss)

all_bare : (ss : List Stmt) → all_of (map uses (map unplaced_stmt ss)) ≡ map bare_use (all_of (map uses ss))
all_bare ss = subst (λ (us : List Stmt). all_of (map uses (map unplaced_stmt us)) ≡ map bare_use (all_of (map uses us)))
    (told_are ss) (stmts_same (told ss))

-- ---- bodies

same_calls : (e f : Expr) → Calls e ≡ Calls f → e ≡ f
same_calls e f i = cc

same_prints : (m n : ℕ) → Prints m ≡ Prints n → m ≡ n
same_prints m n i = cc

use_kept : (q p : Program) → q.texts ≡ p.texts → (v u : Use) → bare_use v ≡ bare_use u → UseFormed q v → UseFormed p u
unfolding bare_use
use_kept q p same (Calls e) (Calls f) i h = same_call e f (same_calls _ _ i) h
use_kept q p same (Calls e) (Prints n) i h = absurd (no i) where
  no : Calls (unplaced_expr e) ≡ Prints n → ⊥
  no i = cc
use_kept q p same (Prints m) (Calls f) i h = absurd (no i) where
  no : Prints m ≡ Calls (unplaced_expr f) → ⊥
  no i = cc
use_kept q p same (Prints m) (Prints n) i h = (
  h.0,
  subst (λ (k : ℕ). slice_get p.texts k ≡ Some h.0) (same_prints m n i)
      (subst (λ (ts : List Text). slice_get ts m ≡ Some h.0) same h.1),
)

-- what is formed but for places is formed
pub uses_kept : (q p : Program) → q.texts ≡ p.texts → (xs ys : List Stmt)
    → map unplaced_stmt xs ≡ map unplaced_stmt ys → UsesFormed q (all_of (map uses xs))
    → UsesFormed p (all_of (map uses ys))
uses_kept q p same xs ys e h u c =
    let m = among_map bare_use (all_of (map uses ys)) u (among_of (all_of (map uses ys)) u c) in
    let r = map_among bare_use (all_of (map uses xs)) (bare_use u)
    (subst (λ (zs : List Use). Among zs (bare_use u)) are m) in
    use_kept q p same r.0 u r.2 (h r.0 (contains_of (all_of (map uses xs)) r.0 r.1)) where
      are : map bare_use (all_of (map uses ys)) ≡ map bare_use (all_of (map uses xs))
      are = sym (all_bare ys) ∙ ap (λ (ss : List Stmt). all_of (map uses ss)) (sym e) ∙ all_bare xs
