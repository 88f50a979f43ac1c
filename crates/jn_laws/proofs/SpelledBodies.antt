-- The terms in the expressions and statements of a program that a source spells.
use Rattle.std.proofs.Common.{◌≡◌, Bool, true, false, ℕ, suc, List, [], ◌∷◌, ◌++◌, map, sym, ap, ◌∙◌, subst, ◌⊎◌, inl, inr, Contains, Option, Some, None}
use Rattle.std.proofs.lemmas.List.Elements.{Contains-append_cases}
use Rattle.jn_base.specs.declared.tree.Name.{Name}
use Rattle.jn_base.specs.declared.tree.Named.{Named}
use Rattle.jn_base.specs.declared.tree.Term.{Term}
use Rattle.jn_base.specs.declared.tree.TypeTerm.{TypeTerm}
use Rattle.jn_base.specs.declared.tree.ViewTerm.{ViewTerm}
use Rattle.jn_base.specs.declared.tree.Expr.{Expr}
use Rattle.jn_base.specs.declared.tree.Node.{Node}
use Rattle.jn_base.specs.declared.tree.Node.TheOpen.{Suffix-F}
use Rattle.jn_base.specs.declared.tree.Node.TheVariants as node
use Rattle.jn_base.specs.declared.tree.Suffix.{Suffix, out-Suffix, out-roll-Suffix}
use Rattle.jn_base.specs.declared.tree.Link.{Link}
use Rattle.jn_base.specs.declared.tree.Level.{Level}
use Rattle.jn_base.specs.declared.tree.Level.TheVariants as level
use Rattle.jn_base.specs.declared.tree.Stmt.{Stmt, out-Stmt}
use Rattle.jn_base.specs.declared.tree.Stmt.TheOpen.{Stmt-F}
use Rattle.jn_base.specs.declared.tree.Stmt.TheFolds.{map-Stmt, fold_out-Stmt}
use Rattle.jn_base.specs.declared.tree.Stmt.TheVariants as stmt
use Rattle.jn_base.specs.declared.tree.Stmt.TheVariants.{outs-Block, outs-Local, outs-Assign, outs-Set, outs-Do, outs-If, outs-While, outs-Return, outs-Print, outs-PrintText}
use Rattle.jn_base.specs.declared.tree.Place.{Place}
use Rattle.jn_base.specs.Parts.{Part, expr, suffix, link, posted, chained, named}
use Rattle.jn_base.specs.Forms.{Mention, Mentions, Termed, Masked, Viewed, all_of, of_type, of_view, of_node, of_expr, of_link, of_suffix, of_stmt}
use Rattle.jn_base.specs.GrammarTypes.{IsView, IsAtoms, last_atom, then_atom, IsType, int, boolean, class}
use Rattle.jn_base.specs.GrammarExpr.{IsForm, IsPrim, IsSuffix, IsSuffixes, IsPost, IsUnary, IsProduct, IsFactors, IsSum, IsSummands, IsComparison, IsEquality, IsConjunction, IsConjuncts, IsExpr, IsDisjuncts, IsArgs, IsMoreArgs, IsCall}
use Rattle.jn_base.specs.GrammarStmt.{IsStmt, IsElse, IsStmts}
use Rattle.jn_base.proofs.NameTests.{in_cons, in_none}
use Rattle.jn_base.proofs.FormEquations.{at_number, at_truth, at_null, at_this, at_variable, at_new, at_super, at_post, at_inverse, at_negative, at_view, at_chain, at_expr, at_link, of_args, at_suffix, at_block, at_local, at_assign, at_set, at_do, at_if, at_while, at_return, at_print, at_text}
use Rattle.jn_sem.specs.LawsOfSlots.{HeadNamed}
use Rattle.jn_laws.specs.LawsOfWritten.{TypeWellFormed}
use Rattle.jn_laws.specs.LawsOfBodies.{local_types, locals_step, SourcesBodiesFormed}
use Rattle.jn_laws.proofs.SpelledForms.{head_named, view_named, type_formed, method_formed}

-- ---- what is mentioned has names before its brackets

TermsNamed : Mentions → Type 0
TermsNamed xs = (t : Term) → Contains xs (Termed t) → HeadNamed t.head

none_named : TermsNamed []
unfolding TermsNamed
none_named t c = absurd (in_none (Termed t) c)

both_named : (xs ys : Mentions) → TermsNamed xs → TermsNamed ys → TermsNamed (xs ++ ys)
unfolding TermsNamed
both_named xs ys h k t c = at (Contains-append_cases xs ys (Termed t) c) where
  at : Contains xs (Termed t) ⊎ Contains ys (Termed t) → HeadNamed t.head
  at (inl a) = h t a
  at (inr b) = k t b

same_term : (t u : Term) → Termed t ≡ Termed u → t ≡ u
same_term t u e = cc

term_then : (t : Term) (xs : Mentions) → HeadNamed t.head → TermsNamed xs → TermsNamed (Termed t ∷ xs)
unfolding TermsNamed
term_then t xs n h u c = at (in_cons (Termed t) xs (Termed u) c) where
  at : (Termed t ≡ Termed u) ⊎ Contains xs (Termed u) → HeadNamed u.head
  at (inl e) = subst (λ (v : Term). HeadNamed v.head) (same_term t u e) n
  at (inr k) = h u k

other_then : (x : Mention) (xs : Mentions) → ((t : Term) → x ≡ Termed t → ⊥) → TermsNamed xs → TermsNamed (x ∷ xs)
unfolding TermsNamed
other_then x xs n h u c = at (in_cons x xs (Termed u) c) where
  at : (x ≡ Termed u) ⊎ Contains xs (Termed u) → HeadNamed u.head
  at (inl e) = absurd (n u e)
  at (inr k) = h u k

mask_is_none : (m : Named) (t : Term) → Masked m ≡ Termed t → ⊥
mask_is_none m t e = cc

viewed_is_none : (t : Term) → Viewed ≡ Termed t → ⊥
viewed_is_none t e = cc

masks_named : (ms : List Named) → TermsNamed (map Masked ms)
masks_named [] = none_named
masks_named (m ∷ ms) = other_then (Masked m) (map Masked ms) (mask_is_none m) (masks_named ms)

view_terms : (d : ℕ) (w : List Part) (v : ViewTerm) → IsView d w v → TermsNamed (of_view v)
view_terms d w v i = term_then v.term (map Masked v.masks) (view_named d w v i) (masks_named v.masks)

atoms_terms : (d k : ℕ) (w : List Part) (ts : List Term) → IsAtoms d k w ts → TermsNamed (map Termed ts)
atoms_terms d k _ _ (last_atom {p = p} {w = w} {t = t} i) = term_then t [] (head_named d p w t i) none_named
atoms_terms d k _ _ (then_atom {p = p} o {v = v} {w = w} {t = t} {ts = ts} i more) = term_then t (map Termed ts) (head_named d p v t i) (atoms_terms d (suc k) w ts more)

type_terms : (d : ℕ) (w : List Part) (t : TypeTerm) → IsType d w t → TermsNamed (of_type t)
type_terms d _ _ int = none_named
type_terms d _ _ boolean = none_named
type_terms d _ _ (class {v = v} {ts = ts} {ms = ms} i m) = both_named (map Termed ts) (map Masked ms) (atoms_terms d 1 v ts i) (masks_named ms)

-- ---- expressions

ExprNamed : Expr → Type 0
ExprNamed e = TermsNamed (of_expr e)

by_node : (p : Place) (n : Node) → TermsNamed (of_node n) → ExprNamed (expr p n)
unfolding ExprNamed
by_node p n h = subst TermsNamed (sym (at_expr (expr p n))) h

node_by : (n : Node) (xs : Mentions) → of_node n ≡ xs → TermsNamed xs → TermsNamed (of_node n)
node_by n xs e h = subst TermsNamed (sym e) h

posted_named : (p : Place) (e : Expr) (ss : List Suffix) → ExprNamed e → TermsNamed (all_of (map of_suffix ss)) → ExprNamed (posted p e ss)
unfolding ExprNamed
posted_named p e [] h k = h
posted_named p e (s ∷ ss) h k = by_node p (node.Post e (s ∷ ss)) (node_by _ _ (at_post e (s ∷ ss)) (both_named (of_expr e) (all_of (map of_suffix (s ∷ ss))) h k))

chained_named : (p : Place) (l : Level) (e : Expr) (ls : List Link) → ExprNamed e → TermsNamed (all_of (map of_link ls)) → ExprNamed (chained p l e ls)
unfolding ExprNamed
chained_named p l e [] h k = h
chained_named p l e (x ∷ ls) h k = by_node p (node.Chain l e (x ∷ ls)) (node_by _ _ (at_chain l e (x ∷ ls)) (both_named (of_expr e) (all_of (map of_link (x ∷ ls))) h k))

link_named : (l : Link) → ExprNamed l.right → TermsNamed (of_link l)
unfolding ExprNamed
link_named l h = subst TermsNamed (sym (at_link l)) h

LinksNamed : List Link → Type 0
LinksNamed ls = TermsNamed (all_of (map of_link ls))

link_then : (l : Link) (ls : List Link) → ExprNamed l.right → LinksNamed ls → LinksNamed (l ∷ ls)
unfolding LinksNamed
link_then l ls h k = both_named (of_link l) (all_of (map of_link ls)) (link_named l h) k

ExprsNamed : List Expr → Type 0
ExprsNamed es = TermsNamed (all_of (map of_expr es))

exprs_then : (e : Expr) (es : List Expr) → ExprNamed e → ExprsNamed es → ExprsNamed (e ∷ es)
unfolding ExprNamed ExprsNamed
exprs_then e es h k = both_named (of_expr e) (all_of (map of_expr es)) h k

suffix_by : (s : Suffix) (args : Option (List Expr)) → (out-Suffix s).args ≡ args → TermsNamed (of_args args) → TermsNamed (of_suffix s)
suffix_by s args e h = subst TermsNamed (sym (at_suffix s ∙ ap of_args e)) h

called_named : (x : Name) (p : Place) (es : List Expr) → ExprsNamed es → TermsNamed (of_suffix (suffix x p (Some es)))
unfolding ExprsNamed
called_named x p es h = suffix_by (suffix x p (Some es)) (Some es) (ap (λ (z : Suffix-F Node Expr Link Suffix). z.args) (out-roll-Suffix (record { name = named x p; args = Some es }))) h

field_named : (x : Name) (p : Place) → TermsNamed (of_suffix (suffix x p None))
field_named x p = suffix_by (suffix x p None) None (ap (λ (z : Suffix-F Node Expr Link Suffix). z.args) (out-roll-Suffix (record { name = named x p; args = None }))) none_named

SuffixesNamed : List Suffix → Type 0
SuffixesNamed ss = TermsNamed (all_of (map of_suffix ss))

suffixes_then : (s : Suffix) (ss : List Suffix) → TermsNamed (of_suffix s) → SuffixesNamed ss → SuffixesNamed (s ∷ ss)
unfolding SuffixesNamed
suffixes_then s ss h k = both_named (of_suffix s) (all_of (map of_suffix ss)) h k

no_suffixes : SuffixesNamed []
unfolding SuffixesNamed
no_suffixes = none_named

no_links : LinksNamed []
unfolding LinksNamed
no_links = none_named

no_exprs : ExprsNamed []
unfolding ExprsNamed
no_exprs = none_named

leaf : (p : Place) (n : Node) → of_node n ≡ [] → ExprNamed (expr p n)
leaf p n e = by_node p n (node_by n [] e none_named)

new_named : (p : Place) (t : Term) (es : List Expr) → HeadNamed t.head → ExprsNamed es → ExprNamed (expr p (node.New t es))
unfolding ExprsNamed
new_named p t es n h = by_node p (node.New t es) (node_by _ _ (at_new t es) (term_then t (all_of (map of_expr es)) n h))

super_named : (p : Place) (t : Term) (x : Named) (es : List Expr) → HeadNamed t.head → ExprsNamed es → ExprNamed (expr p (node.Super t x es))
unfolding ExprsNamed
super_named p t x es n h = by_node p (node.Super t x es) (node_by _ _ (at_super t x es) (term_then t (all_of (map of_expr es)) n h))

inverse_named : (p : Place) (e : Expr) → ExprNamed e → ExprNamed (expr p (node.Not e))
unfolding ExprNamed
inverse_named p e h = by_node p (node.Not e) (node_by _ _ (at_inverse e) h)

negative_named : (p : Place) (e : Expr) → ExprNamed e → ExprNamed (expr p (node.Neg e))
unfolding ExprNamed
negative_named p e h = by_node p (node.Neg e) (node_by _ _ (at_negative e) h)

viewed_named : (p : Place) (v : ViewTerm) (e : Expr) → TermsNamed (of_view v) → ExprNamed e → ExprNamed (expr p (node.View v e))
unfolding ExprNamed
viewed_named p v e n h =
    by_node p (node.View v e) (node_by _ _ (at_view v e) (other_then Viewed (of_view v ++ of_expr e) viewed_is_none (both_named (of_view v) (of_expr e) n h)))

posted_by : (p : Place) (e : Expr) (ss : List Suffix) → ExprNamed e → SuffixesNamed ss → ExprNamed (posted p e ss)
unfolding SuffixesNamed
posted_by p e ss h k = posted_named p e ss h k

chained_by : (p : Place) (l : Level) (e : Expr) (ls : List Link) → ExprNamed e → LinksNamed ls → ExprNamed (chained p l e ls)
unfolding LinksNamed
chained_by p l e ls h k = chained_named p l e ls h k

mutual
  form_named : {d : ℕ} {p : Place} {w : List Part} {e : Expr} → IsForm d p w e → ExprNamed e
  form_named {d} {p} (IsForm.new_object {q = q} o c {v = v} {t = t} {es = es} i given) = new_named p t es (head_named d q v t i) (args_named given)
  form_named {d} {p} (IsForm.super_call {q = q} b s o n u c {x = x} {v = v} {t = t} {es = es} i given) = super_named p t (named x n) es (head_named (suc d) q v t i) (args_named given)

  prim_named : {d : ℕ} {p : Place} {w : List Part} {e : Expr} → IsPrim d p w e → ExprNamed e
  prim_named {p = p} (IsPrim.constant {v = v}) = leaf p (node.Int v) (at_number v)
  prim_named {p = p} IsPrim.yes = leaf p (node.Bool true) (at_truth true)
  prim_named {p = p} IsPrim.no = leaf p (node.Bool false) (at_truth false)
  prim_named {p = p} IsPrim.null = leaf p node.Null at_null
  prim_named {p = p} IsPrim.this_object = leaf p node.This at_this
  prim_named {p = p} (IsPrim.variable {x = x}) = leaf p (node.Var x) (at_variable x)
  prim_named (IsPrim.parens c i) = expr_named i
  prim_named (IsPrim.form i) = form_named i

  suffix_named : {d : ℕ} {w : List Part} {s : Suffix} → IsSuffix d w s → TermsNamed (of_suffix s)
  suffix_named (IsSuffix.field {x = x} {p = p}) = field_named x p
  suffix_named (IsSuffix.call {x = x} {p = p} c {es = es} given) = called_named x p es (args_named given)

  suffixes_named : {d : ℕ} {w : List Part} {ss : List Suffix} → IsSuffixes d w ss → SuffixesNamed ss
  suffixes_named IsSuffixes.no_suffix = no_suffixes
  suffixes_named (IsSuffixes.then_suffix {s = s} {ss = ss} i more) = suffixes_then s ss (suffix_named i) (suffixes_named more)

  post_named : {d : ℕ} {p : Place} {w : List Part} {e : Expr} → IsPost d p w e → ExprNamed e
  post_named {p = p} (IsPost.post {e = e} {ss = ss} i more) = posted_by p e ss (prim_named i) (suffixes_named more)

  unary_named : {d : ℕ} {p : Place} {w : List Part} {e : Expr} → IsUnary d p w e → ExprNamed e
  unary_named {p = p} (IsUnary.inverse {e = e} i) = inverse_named p e (unary_named i)
  unary_named {p = p} (IsUnary.negative {e = e} i) = negative_named p e (unary_named i)
  unary_named {d} {p} (IsUnary.viewed o c {v = v} {t = t} {e = e} n i) = viewed_named p t e (view_terms (suc d) v t n) (unary_named i)
  unary_named (IsUnary.unsigned i) = post_named i

  product_named : {d : ℕ} {p : Place} {w : List Part} {e : Expr} → IsProduct d p w e → ExprNamed e
  product_named {p = p} (IsProduct.product {e = e} {ls = ls} i more) = chained_by p level.Product e ls (unary_named i) (factors_named more)

  factors_named : {d : ℕ} {w : List Part} {ls : List Link} → IsFactors d w ls → LinksNamed ls
  factors_named IsFactors.no_factor = no_links
  factors_named (IsFactors.then_factor {o = o} {p = p} {e = e} {ls = ls} x i more) = link_then (link o p e) ls (unary_named i) (factors_named more)

  sum_named : {d : ℕ} {p : Place} {w : List Part} {e : Expr} → IsSum d p w e → ExprNamed e
  sum_named {p = p} (IsSum.sum {e = e} {ls = ls} i more) = chained_by p level.Sum e ls (product_named i) (summands_named more)

  summands_named : {d : ℕ} {w : List Part} {ls : List Link} → IsSummands d w ls → LinksNamed ls
  summands_named IsSummands.no_summand = no_links
  summands_named (IsSummands.then_summand {o = o} {p = p} {e = e} {ls = ls} x i more) = link_then (link o p e) ls (product_named i) (summands_named more)

  comparison_named : {d : ℕ} {p : Place} {w : List Part} {e : Expr} → IsComparison d p w e → ExprNamed e
  comparison_named (IsComparison.one_sum i) = sum_named i
  comparison_named {p = p} (IsComparison.two_sums {o = o} r {e = e} {f = f} i x j) = chained_by p level.Compare e (link o r f ∷ []) (sum_named i) (link_then (link o r f) [] (sum_named j) no_links)

  equality_named : {d : ℕ} {p : Place} {w : List Part} {e : Expr} → IsEquality d p w e → ExprNamed e
  equality_named (IsEquality.one_side i) = comparison_named i
  equality_named {p = p} (IsEquality.two_sides {o = o} r {e = e} {f = f} i x j) = chained_by p level.Equal e (link o r f ∷ []) (comparison_named i) (link_then (link o r f) [] (comparison_named j) no_links)

  conjunction_named : {d : ℕ} {p : Place} {w : List Part} {e : Expr} → IsConjunction d p w e → ExprNamed e
  conjunction_named {p = p} (IsConjunction.conjunction {e = e} {ls = ls} i more) = chained_by p level.And e ls (equality_named i) (conjuncts_named more)

  conjuncts_named : {d : ℕ} {w : List Part} {ls : List Link} → IsConjuncts d w ls → LinksNamed ls
  conjuncts_named IsConjuncts.no_conjunct = no_links
  conjuncts_named (IsConjuncts.then_conjunct {o = o} {p = p} {e = e} {ls = ls} x i more) = link_then (link o p e) ls (equality_named i) (conjuncts_named more)

  expr_named : {d : ℕ} {p : Place} {w : List Part} {e : Expr} → IsExpr d p w e → ExprNamed e
  expr_named {p = p} (IsExpr.disjunction {e = e} {ls = ls} i more) = chained_by p level.Or e ls (conjunction_named i) (disjuncts_named more)

  disjuncts_named : {d : ℕ} {w : List Part} {ls : List Link} → IsDisjuncts d w ls → LinksNamed ls
  disjuncts_named IsDisjuncts.no_disjunct = no_links
  disjuncts_named (IsDisjuncts.then_disjunct {o = o} {p = p} {e = e} {ls = ls} x i more) = link_then (link o p e) ls (conjunction_named i) (disjuncts_named more)

  args_named : {d : ℕ} {w : List Part} {es : List Expr} → IsArgs d w es → ExprsNamed es
  args_named IsArgs.no_arg = no_exprs
  args_named (IsArgs.args {e = e} {es = es} i more) = exprs_then e es (expr_named i) (more_args_named more)

  more_args_named : {d : ℕ} {w : List Part} {es : List Expr} → IsMoreArgs d w es → ExprsNamed es
  more_args_named IsMoreArgs.no_more_arg = no_exprs
  more_args_named (IsMoreArgs.then_arg {e = e} {es = es} i more) = exprs_then e es (expr_named i) (more_args_named more)

call_named : {d : ℕ} {w : List Part} {e : Expr} → IsCall d w e → ExprNamed e
call_named (IsCall.called {p = p} {e = e} {ss = ss} i more n) = posted_by p e ss (prim_named i) (suffixes_named more)
call_named (IsCall.formed i) = form_named i

-- ---- statements

StmtNamed : Stmt → Type 0
StmtNamed s = TermsNamed (of_stmt s)

StmtsNamed : List Stmt → Type 0
StmtsNamed ss = TermsNamed (all_of (map of_stmt ss))

stmt_by : (s : Stmt) (xs : Mentions) → of_stmt s ≡ xs → TermsNamed xs → StmtNamed s
unfolding StmtNamed
stmt_by s xs e h = subst TermsNamed (sym e) h

no_stmts : StmtsNamed []
unfolding StmtsNamed
no_stmts = none_named

stmts_then : (s : Stmt) (ss : List Stmt) → StmtNamed s → StmtsNamed ss → StmtsNamed (s ∷ ss)
unfolding StmtNamed StmtsNamed
stmts_then s ss h k = both_named (of_stmt s) (all_of (map of_stmt ss)) h k

block_named : (ss : List Stmt) → StmtsNamed ss → StmtNamed (stmt.Block ss)
unfolding StmtsNamed
block_named ss h = stmt_by (stmt.Block ss) _ (at_block ss) h

local_named : (d : ℕ) (w : List Part) (fixed : Bool) (t : TypeTerm) (x : Named) (e : Expr) → IsType d w t → ExprNamed e → StmtNamed (stmt.Local fixed t x e)
unfolding ExprNamed
local_named d w fixed t x e i h = stmt_by (stmt.Local fixed t x e) _ (at_local fixed t x e) (both_named (of_type t) (of_expr e) (type_terms d w t i) h)

assign_named : (x : Named) (e : Expr) → ExprNamed e → StmtNamed (stmt.Assign x e)
unfolding ExprNamed
assign_named x e h = stmt_by (stmt.Assign x e) _ (at_assign x e) h

set_named : (t : Expr) (x : Named) (e : Expr) → ExprNamed t → ExprNamed e → StmtNamed (stmt.Set t x e)
unfolding ExprNamed
set_named t x e h k = stmt_by (stmt.Set t x e) _ (at_set t x e) (both_named (of_expr t) (of_expr e) h k)

do_named : (e : Expr) → ExprNamed e → StmtNamed (stmt.Do e)
unfolding ExprNamed
do_named e h = stmt_by (stmt.Do e) _ (at_do e) h

if_named : (e : Expr) (ss rs : List Stmt) (p : Place) → ExprNamed e → StmtsNamed ss → StmtsNamed rs → StmtNamed (stmt.If e ss rs p)
unfolding ExprNamed StmtsNamed
if_named e ss rs p h k l =
    stmt_by (stmt.If e ss rs p) _ (at_if e ss rs p) (both_named (of_expr e) (all_of (map of_stmt ss) ++ all_of (map of_stmt rs)) h (both_named (all_of (map of_stmt ss)) (all_of (map of_stmt rs)) k l))

while_named : (e : Expr) (ss : List Stmt) (p : Place) → ExprNamed e → StmtsNamed ss → StmtNamed (stmt.While e ss p)
unfolding ExprNamed StmtsNamed
while_named e ss p h k = stmt_by (stmt.While e ss p) _ (at_while e ss p) (both_named (of_expr e) (all_of (map of_stmt ss)) h k)

give_named : (e : Expr) (p : Place) → ExprNamed e → StmtNamed (stmt.Return (Some e) p)
unfolding ExprNamed
give_named e p h = stmt_by (stmt.Return (Some e) p) _ (at_return (Some e) p) h

print_named : (e : Expr) (p : Place) → ExprNamed e → StmtNamed (stmt.Print e p)
unfolding ExprNamed
print_named e p h = stmt_by (stmt.Print e p) _ (at_print e p) h

mutual
  stmt_named : {d k m : ℕ} {w : List Part} {s : Stmt} → IsStmt d k w s m → StmtNamed s
  stmt_named (IsStmt.block c {ss = ss} i) = block_named ss (stmts_named i)
  stmt_named {d} (IsStmt.local {x = x} {p = p} o s {v = v} {fixed = fixed} {t = t} {e = e} f i j) = local_named d v fixed t (named x p) e i (expr_named j)
  stmt_named (IsStmt.assign {x = x} {p = p} s {e = e} i) = assign_named (named x p) e (expr_named i)
  stmt_named (IsStmt.set_field {x = x} b n o s {t = t} {e = e} i j) = set_named t (named x n) e (post_named i) (expr_named j)
  stmt_named (IsStmt.act s {e = e} i) = do_named e (call_named i)
  stmt_named (IsStmt.choice {p = p} c b e {t = t} {ss = ss} {rs = rs} i j k) = if_named t ss rs p (expr_named i) (stmts_named j) (else_named k)
  stmt_named (IsStmt.turns {p = p} c b e {t = t} {ss = ss} i j) = while_named t ss p (expr_named i) (stmts_named j)
  stmt_named (IsStmt.leave {p = p}) = stmt_by (stmt.Return None p) _ (at_return None p) none_named
  stmt_named (IsStmt.give {p = p} s {e = e} i) = give_named e p (expr_named i)
  stmt_named (IsStmt.print {p = p} c s {e = e} i) = print_named e p (expr_named i)
  stmt_named (IsStmt.print_text {n = n} {p = p}) = stmt_by (stmt.PrintText n p) _ (at_text n p) none_named

  else_named : {d k m : ℕ} {w : List Part} {ss : List Stmt} → IsElse d k w ss m → StmtsNamed ss
  else_named IsElse.no_else = no_stmts
  else_named (IsElse.otherwise c i) = stmts_named i

  stmts_named : {d k m : ℕ} {w : List Part} {ss : List Stmt} → IsStmts d k w ss m → StmtsNamed ss
  stmts_named IsStmts.no_stmt = no_stmts
  stmts_named (IsStmts.then_stmt {s = s} {ss = ss} i more) = stmts_then s ss (stmt_named i) (stmts_named more)

-- ---- the types of locals

TypesFormed : List TypeTerm → Type 0
TypesFormed ts = (t : TypeTerm) → Contains ts t → TypeWellFormed t

no_types : TypesFormed []
unfolding TypesFormed
no_types t c = absurd (in_none t c)

both_formed : (xs ys : List TypeTerm) → TypesFormed xs → TypesFormed ys → TypesFormed (xs ++ ys)
unfolding TypesFormed
both_formed xs ys h k t c = at (Contains-append_cases xs ys t c) where
  at : Contains xs t ⊎ Contains ys t → TypeWellFormed t
  at (inl a) = h t a
  at (inr b) = k t b

one_formed : (u : TypeTerm) → TypeWellFormed u → TypesFormed (u ∷ [])
unfolding TypesFormed
one_formed u h t c = at (in_cons u [] t c) where
  at : (u ≡ t) ⊎ Contains [] t → TypeWellFormed t
  at (inl e) = subst TypeWellFormed e h
  at (inr n) = absurd (in_none t n)

locals_from : (s : Stmt) (f : Stmt-F Stmt) → out-Stmt s ≡ f → local_types s ≡ locals_step (map-Stmt Stmt (List TypeTerm) local_types f)
unfolding local_types
locals_from s f e = fold_out-Stmt (List TypeTerm) locals_step s ∙ ap (λ (x : Stmt-F Stmt). locals_step (map-Stmt Stmt (List TypeTerm) local_types x)) e

formed_by : (s : Stmt) (ts : List TypeTerm) → local_types s ≡ ts → TypesFormed ts → TypesFormed (local_types s)
formed_by s ts e h = subst TypesFormed (sym e) h

mutual
  stmt_formed : {d k m : ℕ} {w : List Part} {s : Stmt} → IsStmt d k w s m → TypesFormed (local_types s)
  stmt_formed (IsStmt.block c {ss = ss} i) = formed_by (stmt.Block ss) _ (locals_from _ _ (outs-Block ss)) (stmts_formed i)
  stmt_formed {d} (IsStmt.local {x = x} {p = p} o s {v = v} {fixed = fixed} {t = t} {e = e} f i j) =
      formed_by (stmt.Local fixed t (named x p) e) _ (locals_from _ _ (outs-Local fixed t (named x p) e)) (one_formed t (type_formed d v t i))
  stmt_formed (IsStmt.assign {x = x} {p = p} s {e = e} i) = formed_by (stmt.Assign (named x p) e) _ (locals_from _ _ (outs-Assign (named x p) e)) no_types
  stmt_formed (IsStmt.set_field {x = x} b n o s {t = t} {e = e} i j) = formed_by (stmt.Set t (named x n) e) _ (locals_from _ _ (outs-Set t (named x n) e)) no_types
  stmt_formed (IsStmt.act s {e = e} i) = formed_by (stmt.Do e) _ (locals_from _ _ (outs-Do e)) no_types
  stmt_formed (IsStmt.choice {p = p} c b e {t = t} {ss = ss} {rs = rs} i j k) =
      formed_by (stmt.If t ss rs p) _ (locals_from _ _ (outs-If t ss rs p)) (both_formed (all_of (map local_types ss)) (all_of (map local_types rs)) (stmts_formed j) (else_formed k))
  stmt_formed (IsStmt.turns {p = p} c b e {t = t} {ss = ss} i j) = formed_by (stmt.While t ss p) _ (locals_from _ _ (outs-While t ss p)) (stmts_formed j)
  stmt_formed (IsStmt.leave {p = p}) = formed_by (stmt.Return None p) _ (locals_from _ _ (outs-Return None p)) no_types
  stmt_formed (IsStmt.give {p = p} s {e = e} i) = formed_by (stmt.Return (Some e) p) _ (locals_from _ _ (outs-Return (Some e) p)) no_types
  stmt_formed (IsStmt.print {p = p} c s {e = e} i) = formed_by (stmt.Print e p) _ (locals_from _ _ (outs-Print e p)) no_types
  stmt_formed (IsStmt.print_text {n = n} {p = p}) = formed_by (stmt.PrintText n p) _ (locals_from _ _ (outs-PrintText n p)) no_types

  else_formed : {d k m : ℕ} {w : List Part} {ss : List Stmt} → IsElse d k w ss m → TypesFormed (all_of (map local_types ss))
  else_formed IsElse.no_else = no_types
  else_formed (IsElse.otherwise c i) = stmts_formed i

  stmts_formed : {d k m : ℕ} {w : List Part} {ss : List Stmt} → IsStmts d k w ss m → TypesFormed (all_of (map local_types ss))
  stmts_formed IsStmts.no_stmt = no_types
  stmts_formed (IsStmts.then_stmt {s = s} {ss = ss} i more) = both_formed (local_types s) (all_of (map local_types ss)) (stmt_formed i) (stmts_formed more)

pub sources_bodies_formed : SourcesBodiesFormed
unfolding TermsNamed StmtsNamed TypesFormed
sources_bodies_formed p bytes s Q m x at =
    let f = (method_formed p s.parts s.is_program Q m x at).formed in
    record { terms = stmts_named f.body; locals = stmts_formed f.body }
