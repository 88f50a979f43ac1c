-- The symbols of expressions are those of the grammar.
use Rattle.std.proofs.Common.{◌≡◌, ℕ, suc, ◌≤◌, true, false, List, [], ◌∷◌, ◌++◌, nat_le, refl, sym, ap, subst, ◌∙◌, append-nil, arith, ◌⊎◌, inl, inr}
use Rattle.std.proofs.lemmas.Bool.Decides.{nat_tests}
use Rattle.jn_base.specs.declared.tree.Place.{Place}
use Rattle.jn_base.specs.declared.tree.Expr.{Expr}
use Rattle.jn_base.specs.declared.tree.Link.{Link}
use Rattle.jn_base.specs.declared.tree.Suffix.{Suffix}
use Rattle.jn_base.specs.declared.tree.Level.{Level}
use Rattle.jn_base.specs.declared.tree.Level.TheVariants as level
use Rattle.jn_base.specs.declared.tree.Node.TheVariants as node
use Rattle.jn_base.specs.declared.tree.Node.TheVariants.{outs-Int, outs-Bool, outs-Null, outs-This, outs-Var, outs-New, outs-Super, outs-Post, outs-Not, outs-Neg, outs-View, outs-Chain}
use Rattle.jn_base.specs.Parts.{Part}
use Rattle.jn_base.specs.GrammarExpr.{IsForm, new_object, super_call, IsPrim, constant, yes, no, null, this_object, variable, parens, form, no_suffix, then_suffix, IsPost, post, IsUnary, inverse, negative, viewed, unsigned, IsProduct, product, no_factor, then_factor, IsSum, sum, no_summand, then_summand, IsComparison, one_sum, two_sums, IsEquality, one_side, two_sides, IsConjunction, conjunction, no_conjunct, then_conjunct, IsExpr, disjunction, no_disjunct, then_disjunct}
use Rattle.jn_printer.specs.declared.symbol.Symbol.{Symbol}
use Rattle.jn_printer.specs.declared.symbol.Symbol.TheVariants as symbol
use Rattle.jn_printer.specs.ExprText.{tightness, is_instance, chain_symbol, symbol_of, symbol_at}
use Rattle.jn_printer.specs.OperandLaw.{IsInstance, IsInParentheses, OperandLaw}
use Rattle.jn_printer.proofs.ExprTools.{Is, lift, tight}

-- one relation by the symbols and by their tightness
to_number : (s : Symbol) (d : ℕ) (p : Place) (w : List Part) (e : Expr) → IsInstance s d p w e → Is (tightness s) d p w e
to_number symbol.Expression d p w e i = i
to_number symbol.Conjunction d p w e i = i
to_number symbol.Equality d p w e i = i
to_number symbol.Comparison d p w e i = i
to_number symbol.Sum d p w e i = i
to_number symbol.Product d p w e i = i
to_number symbol.Unary d p w e i = i
to_number symbol.Post d p w e i = i
to_number symbol.Prim d p w e i = i

from_number : (s : Symbol) (d : ℕ) (p : Place) (w : List Part) (e : Expr) → Is (tightness s) d p w e → IsInstance s d p w e
from_number symbol.Expression d p w e i = i
from_number symbol.Conjunction d p w e i = i
from_number symbol.Equality d p w e i = i
from_number symbol.Comparison d p w e i = i
from_number symbol.Sum d p w e i = i
from_number symbol.Product d p w e i = i
from_number symbol.Unary d p w e i = i
from_number symbol.Post d p w e i = i
from_number symbol.Prim d p w e i = i

looser : (own asked : Symbol) → is_instance own asked ≡ true → (d : ℕ) (p : Place) (w : List Part) (e : Expr) → IsInstance own d p w e → IsInstance asked d p w e
looser own asked h d p w e i = from_number asked d p w e (lift (tightness own) (tightness asked) d p w e (fits (tightness asked) (tightness own) h) (to_number own d p w e i)) where
  fits : (k t : ℕ) → nat_le k t ≡ true → k ≤ t
  fits k t h = grind (arith, nat_tests)

-- what is said of the place of a symbol that is k tight
abbrev Said : ℕ → ℕ → List Part → Expr → Type 0
Said k d w e = (nat_le k (tight e) ≡ true) ⊎ IsInParentheses d w e

weaker : (k d : ℕ) (w : List Part) (e : Expr) → Said (suc k) d w e → Said k d w e
weaker k d w e (inl h) = inl (lemma k (tight e) h) where
  lemma : (k t : ℕ) → nat_le (suc k) t ≡ true → nat_le k t ≡ true
  lemma k t h = grind (arith, nat_tests)
weaker k d w e (inr h) = inr h

-- with nothing behind
alone : (k d : ℕ) (w : List Part) (e : Expr) → Said k d w e → Said k d (w ++ []) e
alone k d w e h = subst (λ (x : List Part). Said k d x e) (sym (append-nil w)) h

own_form : {d : ℕ} {p : Place} {w : List Part} {e : Expr} → IsForm d p w e → nat_le 8 (tight e) ≡ true
own_form (new_object o c {t = t} {es = es} i a) = ap (λ x. nat_le 8 (tightness (symbol_at x))) (outs-New t es)
own_form (super_call b s o n u c {t = t} {es = es} i a) = ap (λ x. nat_le 8 (tightness (symbol_at x))) (outs-Super t _ es)

of_prim : {d : ℕ} {p : Place} {w : List Part} {e : Expr} → IsPrim d p w e → Said 8 d w e
of_prim (constant {v = v}) = inl (ap (λ x. nat_le 8 (tightness (symbol_at x))) (outs-Int v))
of_prim yes = inl (ap (λ x. nat_le 8 (tightness (symbol_at x))) (outs-Bool true))
of_prim no = inl (ap (λ x. nat_le 8 (tightness (symbol_at x))) (outs-Bool false))
of_prim null = inl (ap (λ x. nat_le 8 (tightness (symbol_at x))) outs-Null)
of_prim this_object = inl (ap (λ x. nat_le 8 (tightness (symbol_at x))) outs-This)
of_prim (variable {x = x}) = inl (ap (λ y. nat_le 8 (tightness (symbol_at y))) (outs-Var x))
of_prim (parens {p = p} {q = q} c {w = w} i) = inr (record { opened = p; first = q; inside = w; closed = c; words = refl; is_expr = i })
of_prim (form i) = inl (own_form i)

own_post : (e : Expr) (s : Suffix) (ss : List Suffix) → nat_le 7 (tightness (symbol_of (node.Post e (s ∷ ss)))) ≡ true
own_post e s ss = ap (λ x. nat_le 7 (tightness (symbol_at x))) (outs-Post e (s ∷ ss))

of_post : {d : ℕ} {p : Place} {w : List Part} {e : Expr} → IsPost d p w e → Said 7 d w e
of_post {d} (post {v = v} {e = e} i no_suffix) = alone 7 d v e (weaker 7 d v e (of_prim i))
of_post (post {e = e} i (then_suffix {s = s} {ss = ss} a b)) = inl (own_post e s ss)

of_unary : {d : ℕ} {p : Place} {w : List Part} {e : Expr} → IsUnary d p w e → Said 6 d w e
of_unary (inverse {e = e} i) = inl (ap (λ x. nat_le 6 (tightness (symbol_at x))) (outs-Not e))
of_unary (negative {e = e} i) = inl (ap (λ x. nat_le 6 (tightness (symbol_at x))) (outs-Neg e))
of_unary (viewed o c {t = t} {e = e} i j) = inl (ap (λ x. nat_le 6 (tightness (symbol_at x))) (outs-View t e))
of_unary {d} (unsigned {w = w} {e = e} i) = weaker 6 d w e (of_post i)

own_chain : (l : Level) (e : Expr) (k : Link) (ls : List Link) → nat_le (tightness (chain_symbol l)) (tightness (chain_symbol l)) ≡ true
    → nat_le (tightness (chain_symbol l)) (tightness (symbol_of (node.Chain l e (k ∷ ls)))) ≡ true
own_chain l e k ls h = ap (λ x. nat_le (tightness (chain_symbol l)) (tightness (symbol_at x))) (outs-Chain l e (k ∷ ls)) ∙ h

of_product : {d : ℕ} {p : Place} {w : List Part} {e : Expr} → IsProduct d p w e → Said 5 d w e
of_product {d} (product {v = v} {e = e} i no_factor) = alone 5 d v e (weaker 5 d v e (of_unary i))
of_product (product {e = e} i (then_factor {ls = ls} a b c)) = inl (own_chain level.Product e _ ls refl)

of_sum : {d : ℕ} {p : Place} {w : List Part} {e : Expr} → IsSum d p w e → Said 4 d w e
of_sum {d} (sum {v = v} {e = e} i no_summand) = alone 4 d v e (weaker 4 d v e (of_product i))
of_sum (sum {e = e} i (then_summand {ls = ls} a b c)) = inl (own_chain level.Sum e _ ls refl)

of_comparison : {d : ℕ} {p : Place} {w : List Part} {e : Expr} → IsComparison d p w e → Said 3 d w e
of_comparison {d} (one_sum {w = w} {e = e} i) = weaker 3 d w e (of_sum i)
of_comparison (two_sums r {e = e} i o j) = inl (own_chain level.Compare e _ [] refl)

of_equality : {d : ℕ} {p : Place} {w : List Part} {e : Expr} → IsEquality d p w e → Said 2 d w e
of_equality {d} (one_side {w = w} {e = e} i) = weaker 2 d w e (of_comparison i)
of_equality (two_sides r {e = e} i o j) = inl (own_chain level.Equal e _ [] refl)

of_conjunction : {d : ℕ} {p : Place} {w : List Part} {e : Expr} → IsConjunction d p w e → Said 1 d w e
of_conjunction {d} (conjunction {v = v} {e = e} i no_conjunct) = alone 1 d v e (weaker 1 d v e (of_equality i))
of_conjunction (conjunction {e = e} i (then_conjunct {ls = ls} a b c)) = inl (own_chain level.And e _ ls refl)

of_expr : {d : ℕ} {p : Place} {w : List Part} {e : Expr} → IsExpr d p w e → Said 0 d w e
of_expr {d} (disjunction {v = v} {e = e} i no_disjunct) = alone 0 d v e (weaker 0 d v e (of_conjunction i))
of_expr (disjunction {e = e} i (then_disjunct {ls = ls} a b c)) = inl (own_chain level.Or e _ ls refl)

without : (asked : Symbol) (d : ℕ) (p : Place) (w : List Part) (e : Expr) → IsInstance asked d p w e → (is_instance (symbol_of e.node) asked ≡ true) ⊎ IsInParentheses d w e
without symbol.Expression d p w e i = of_expr i
without symbol.Conjunction d p w e i = of_conjunction i
without symbol.Equality d p w e i = of_equality i
without symbol.Comparison d p w e i = of_comparison i
without symbol.Sum d p w e i = of_sum i
without symbol.Product d p w e i = of_product i
without symbol.Unary d p w e i = of_unary i
without symbol.Post d p w e i = of_post i
without symbol.Prim d p w e i = of_prim i

pub operand_law : OperandLaw
operand_law = record { looser = looser; without = without }
