-- What is read of operators with their operands, of expressions and of arguments is in the grammar.
use Rattle.std.proofs.Common.{◌≡◌, ℕ, zero, suc, true, List, [], ◌∷◌, ◌++◌, length, Option, Some, None, Ok, Err, refl, sym, ◌∙◌, ap, subst}
use Rattle.jn_base.specs.declared.tree.Place.{Place}
use Rattle.jn_base.specs.declared.tree.Expr.{Expr}
use Rattle.jn_base.specs.declared.tree.Level.{Level}
use Rattle.jn_base.specs.declared.tree.Level.TheVariants as level_
use Rattle.jn_base.specs.declared.tree.Op.{Op}
use Rattle.jn_base.specs.declared.tree.Op.TheVariants as op
use Rattle.jn_base.specs.declared.tree.Link.{Link}
use Rattle.jn_base.specs.declared.word.Mark.{Mark}
use Rattle.jn_base.specs.declared.word.Mark.TheVariants as mark_
use Rattle.jn_base.specs.declared.word.Word.{Word}
use Rattle.jn_base.specs.declared.word.Word.TheVariants.{Mark as Marked}
use Rattle.jn_base.specs.declared.word.Lexeme.{Lexeme}
use Rattle.jn_base.specs.Words.{lexeme}
use Rattle.jn_base.specs.Parts.{Part, mark, link, chained}
use Rattle.jn_base.specs.GrammarExpr.{IsOperator, or, and, equal, not_equal, less, less_equal, greater, greater_equal, plus, minus, times, over, remainder, IsUnary, IsProduct, product, IsFactors, no_factor, then_factor, IsSum, sum, IsSummands, no_summand, then_summand, IsComparison, one_sum, two_sums, IsEquality, one_side, two_sides, IsConjunction, conjunction, IsConjuncts, no_conjunct, then_conjunct, IsExpr, disjunction, IsDisjuncts, no_disjunct, then_disjunct, IsArgs, no_arg, args, IsMoreArgs, no_more_arg, then_arg}
use Rattle.jn_grammar.specs.Begins.{begins, behind, place}
use Rattle.jn_grammar.specs.Answers.{Answer}
use Rattle.jn_grammar.specs.ReadExprs.{operator, goes_on, link_by, link_in, chain_in, pair_in, product_in, sum_in, comparison_in, equality_in, conjunction_in, expr_in, arg_in, args_in, unary_in, level}
use Rattle.jn_grammar.proofs.FirstWords.{begins_is}
use Rattle.jn_grammar.proofs.Tools.{Below, Took, Sound, sound_bind, sound_if, sound_map, glue}
use Rattle.jn_grammar.proofs.Row.{Row, none, next, many_sound}
use Rattle.jn_grammar.proofs.ExprSound.{Sounds, unary_sound}

-- a word that is an operator of the level
pub record IsOperatorWord (l : Level) (o : Op) (w : Word) : Type 0 where
  pub mark : Mark
  pub is : IsOperator l mark o
  pub word : w ≡ Marked mark

some_op : (o p : Op) → Some o ≡ Some p → o ≡ p
some_op o p e = cc

none_op : (o : Op) → None ≡ Some o → ⊥
none_op o e = cc

pub operator_is : (l : Level) (w : Word) (o : Op) → operator l w ≡ Some o → IsOperatorWord l o w
operator_is level_.Or (Marked mark_.OrOr) o e = subst (λ p. IsOperatorWord level_.Or p (Marked mark_.OrOr)) (some_op op.Or o e) (record { mark = mark_.OrOr; is = or; word = refl })
operator_is level_.And (Marked mark_.AndAnd) o e = subst (λ p. IsOperatorWord level_.And p (Marked mark_.AndAnd)) (some_op op.And o e) (record { mark = mark_.AndAnd; is = and; word = refl })
operator_is level_.Equal (Marked mark_.EqualEqual) o e = subst (λ p. IsOperatorWord level_.Equal p (Marked mark_.EqualEqual)) (some_op op.Eq o e) (record { mark = mark_.EqualEqual; is = equal; word = refl })
operator_is level_.Equal (Marked mark_.NotEqual) o e = subst (λ p. IsOperatorWord level_.Equal p (Marked mark_.NotEqual)) (some_op op.Ne o e) (record { mark = mark_.NotEqual; is = not_equal; word = refl })
operator_is level_.Compare (Marked mark_.Less) o e = subst (λ p. IsOperatorWord level_.Compare p (Marked mark_.Less)) (some_op op.Lt o e) (record { mark = mark_.Less; is = less; word = refl })
operator_is level_.Compare (Marked mark_.LessEqual) o e = subst (λ p. IsOperatorWord level_.Compare p (Marked mark_.LessEqual)) (some_op op.Le o e) (record { mark = mark_.LessEqual; is = less_equal; word = refl })
operator_is level_.Compare (Marked mark_.Greater) o e = subst (λ p. IsOperatorWord level_.Compare p (Marked mark_.Greater)) (some_op op.Gt o e) (record { mark = mark_.Greater; is = greater; word = refl })
operator_is level_.Compare (Marked mark_.GreaterEqual) o e = subst (λ p. IsOperatorWord level_.Compare p (Marked mark_.GreaterEqual)) (some_op op.Ge o e) (record { mark = mark_.GreaterEqual; is = greater_equal; word = refl })
operator_is level_.Sum (Marked mark_.Plus) o e = subst (λ p. IsOperatorWord level_.Sum p (Marked mark_.Plus)) (some_op op.Add o e) (record { mark = mark_.Plus; is = plus; word = refl })
operator_is level_.Sum (Marked mark_.Minus) o e = subst (λ p. IsOperatorWord level_.Sum p (Marked mark_.Minus)) (some_op op.Sub o e) (record { mark = mark_.Minus; is = minus; word = refl })
operator_is level_.Product (Marked mark_.Star) o e = subst (λ p. IsOperatorWord level_.Product p (Marked mark_.Star)) (some_op op.Mul o e) (record { mark = mark_.Star; is = times; word = refl })
operator_is level_.Product (Marked mark_.Slash) o e = subst (λ p. IsOperatorWord level_.Product p (Marked mark_.Slash)) (some_op op.Div o e) (record { mark = mark_.Slash; is = over; word = refl })
operator_is level_.Product (Marked mark_.Percent) o e = subst (λ p. IsOperatorWord level_.Product p (Marked mark_.Percent)) (some_op op.Rem o e) (record { mark = mark_.Percent; is = remainder; word = refl })
operator_is l w o e = absurd (none_op o e)

-- an operator of the level and an operand of this kind
pub data IsLink (l : Level) (Is : Place → List Part → Expr → Type 0) : List Part → Link → Type 0 where
  one_link : {m : Mark} {o : Op} (p q : Place) {w : List Part} {e : Expr} → IsOperator l m o → Is q w e → IsLink l Is (mark m p ∷ w) (link o p e)

pub link_sound : (l : Level) (Is : Place → List Part → Expr → Type 0) (operand : List Lexeme → Answer Expr)
    → ((ts : List Lexeme) → Sound (Is (place ts)) ts (operand ts)) → (k : ℕ) (ts : List Lexeme) → Sound (IsLink l Is) ts (link_in l operand k ts)
unfolding link_in
link_sound l Is operand h k [] = tt
link_sound l Is operand h k (t ∷ ts) = by_operator (operator l t.word) refl
  where
    shown : (o : Op) → IsOperatorWord l o t.word → (e : Expr × List Lexeme) → Took (Is (place ts)) ts e → Took (IsLink l Is) (t ∷ ts) (link o t.at e.0, e.1)
    shown o i e te = record { words = mark i.mark t.at ∷ te.words; split = ap (λ (k : Word). lexeme k t.at ∷ ts) i.word ∙ ap (λ (v : List Lexeme). lexeme (Marked i.mark) t.at ∷ v) te.split; is = one_link t.at (place ts) i.is te.is }

    by_operator : (r : Option Op) → operator l t.word ≡ r → Sound (IsLink l Is) (t ∷ ts) (link_by r operand (t ∷ ts))
    by_operator None e = tt
    by_operator (Some o) e = sound_bind (Is (place ts)) (IsLink l Is) ts (t ∷ ts) (operand ts) _ (h ts) (λ x tx. shown o (operator_is l t.word o e) x tx)

-- a first operand and a row of links
pub record IsChain (l : Level) (Is : Place → List Part → Expr → Type 0) (p : Place) (w : List Part) (e : Expr) : Type 0 where
  pub front : List Part
  pub links : List Part
  pub first : Expr
  pub others : List Link
  pub words : w ≡ front ++ links
  pub tree : e ≡ chained p l first others
  pub first_is : Is p front first
  pub links_are : Row (λ _. IsLink l Is) 1 links others

pub chain_sound : (l : Level) (Is : Place → List Part → Expr → Type 0) (operand : List Lexeme → Answer Expr)
    → ((ts : List Lexeme) → Sound (Is (place ts)) ts (operand ts)) → (ts : List Lexeme) → Sound (IsChain l Is (place ts)) ts (chain_in l operand ts)
unfolding chain_in
chain_sound l Is operand h ts = sound_bind (Is (place ts)) (IsChain l Is (place ts)) ts ts _ _ (h ts)
    (λ e te. sound_bind (Row (λ _. IsLink l Is) 1) (IsChain l Is (place ts)) e.1 ts _ _ (many_sound (λ _. IsLink l Is) (goes_on l) (link_in l operand) (λ k us _. link_sound l Is operand h k us) (length e.1) 1 e.1)
    (λ ls tls. record {
      words = te.words ++ tls.words;
      split = glue _ _ _ _ _ te.split tls.split;
      is = record { front = te.words; links = tls.words; first = e.0; others = ls.0; words = refl; tree = refl; first_is = te.is; links_are = tls.is };
    }))

-- one operand or two
pub data IsPair (l : Level) (Is : Place → List Part → Expr → Type 0) (p : Place) : List Part → Expr → Type 0 where
  alone : {w : List Part} {e : Expr} → Is p w e → IsPair l Is p w e
  two : {m : Mark} {o : Op} (r q : Place) {v w : List Part} {e f : Expr} → Is p v e → IsOperator l m o → Is q w f → IsPair l Is p (v ++ mark m r ∷ w) (chained p l e (link o r f ∷ []))

pair_of : (l : Level) (Is : Place → List Part → Expr → Type 0) (p : Place) (v : List Part) (e : Expr) → Is p v e → (w : List Part) (f : Link) → IsLink l Is w f
    → IsPair l Is p (v ++ w) (chained p l e (f ∷ []))
pair_of l Is p v e i w f (one_link r q o j) = two r q i o j

pub pair_sound : (l : Level) (Is : Place → List Part → Expr → Type 0) (operand : List Lexeme → Answer Expr)
    → ((ts : List Lexeme) → Sound (Is (place ts)) ts (operand ts)) → (ts : List Lexeme) → Sound (IsPair l Is (place ts)) ts (pair_in l operand ts)
unfolding pair_in
pair_sound l Is operand h ts = sound_bind (Is (place ts)) (IsPair l Is (place ts)) ts ts _ _ (h ts)
    (λ e te. sound_if (IsPair l Is (place ts)) ts (goes_on l e.1) _ (Ok (e.0, e.1))
    (λ _. sound_bind (IsLink l Is) (IsPair l Is (place ts)) e.1 ts _ _ (link_sound l Is operand h 1 e.1)
    (λ f tf. record { words = te.words ++ tf.words; split = glue _ _ _ _ _ te.split tf.split; is = pair_of l Is (place ts) te.words e.0 te.is tf.words f.0 tf.is }))
    (λ _. record { words = te.words; split = te.split; is = alone te.is }))

-- THE LEVELS
factors_of : {d k : ℕ} {w : List Part} {ls : List Link} → Row (λ _. IsLink level_.Product (IsUnary d)) k w ls → IsFactors d w ls
factors_of none = no_factor
factors_of (next (one_link p q o i) is) = then_factor o i (factors_of is)

summands_of : {d k : ℕ} {w : List Part} {ls : List Link} → Row (λ _. IsLink level_.Sum (IsProduct d)) k w ls → IsSummands d w ls
summands_of none = no_summand
summands_of (next (one_link p q o i) is) = then_summand o i (summands_of is)

conjuncts_of : {d k : ℕ} {w : List Part} {ls : List Link} → Row (λ _. IsLink level_.And (IsEquality d)) k w ls → IsConjuncts d w ls
conjuncts_of none = no_conjunct
conjuncts_of (next (one_link p q o i) is) = then_conjunct o i (conjuncts_of is)

disjuncts_of : {d k : ℕ} {w : List Part} {ls : List Link} → Row (λ _. IsLink level_.Or (IsConjunction d)) k w ls → IsDisjuncts d w ls
disjuncts_of none = no_disjunct
disjuncts_of (next (one_link p q o i) is) = then_disjunct o i (disjuncts_of is)

-- in place of a chain's words and tree those that it has
of_chain : (Js : List Part → Expr → Type 0) (l : Level) (p : Place) (v u w : List Part) (f e : Expr) (ls : List Link) → w ≡ v ++ u → e ≡ chained p l f ls → Js (v ++ u) (chained p l f ls) → Js w e
of_chain Js l p v u w f e ls a b j = subst (λ (x : Expr). Js w x) (sym b) (subst (λ (i : List Part). Js i (chained p l f ls)) (sym a) j)

product_of : {d : ℕ} {p : Place} {w : List Part} {e : Expr} → IsChain level_.Product (IsUnary d) p w e → IsProduct d p w e
product_of {d} {p} {w} {e} c = of_chain (IsProduct d p) level_.Product p c.front c.links w c.first e c.others c.words c.tree (product c.first_is (factors_of c.links_are))

sum_of : {d : ℕ} {p : Place} {w : List Part} {e : Expr} → IsChain level_.Sum (IsProduct d) p w e → IsSum d p w e
sum_of {d} {p} {w} {e} c = of_chain (IsSum d p) level_.Sum p c.front c.links w c.first e c.others c.words c.tree (sum c.first_is (summands_of c.links_are))

comparison_of : {d : ℕ} {p : Place} {w : List Part} {e : Expr} → IsPair level_.Compare (IsSum d) p w e → IsComparison d p w e
comparison_of (alone i) = one_sum i
comparison_of (two r q i o j) = two_sums r i o j

equality_of : {d : ℕ} {p : Place} {w : List Part} {e : Expr} → IsPair level_.Equal (IsComparison d) p w e → IsEquality d p w e
equality_of (alone i) = one_side i
equality_of (two r q i o j) = two_sides r i o j

conjunction_of : {d : ℕ} {p : Place} {w : List Part} {e : Expr} → IsChain level_.And (IsEquality d) p w e → IsConjunction d p w e
conjunction_of {d} {p} {w} {e} c = of_chain (IsConjunction d p) level_.And p c.front c.links w c.first e c.others c.words c.tree (conjunction c.first_is (conjuncts_of c.links_are))

disjunction_of : {d : ℕ} {p : Place} {w : List Part} {e : Expr} → IsChain level_.Or (IsConjunction d) p w e → IsExpr d p w e
disjunction_of {d} {p} {w} {e} c = of_chain (IsExpr d p) level_.Or p c.front c.links w c.first e c.others c.words c.tree (disjunction c.first_is (disjuncts_of c.links_are))

pub product_sound : (n : ℕ) → Below Sounds n → (d : ℕ) (ts : List Lexeme) → Sound (IsProduct d (place ts)) ts (product_in (level n) ts)
unfolding product_in
product_sound n b d ts = sound_map (IsChain level_.Product (IsUnary d) (place ts)) (IsProduct d (place ts)) ts _ (λ w x. product_of)
    (chain_sound level_.Product (IsUnary d) (unary_in (level n)) (unary_sound n b d) ts)

pub sum_sound : (n : ℕ) → Below Sounds n → (d : ℕ) (ts : List Lexeme) → Sound (IsSum d (place ts)) ts (sum_in (level n) ts)
unfolding sum_in
sum_sound n b d ts = sound_map (IsChain level_.Sum (IsProduct d) (place ts)) (IsSum d (place ts)) ts _ (λ w x. sum_of)
    (chain_sound level_.Sum (IsProduct d) (product_in (level n)) (product_sound n b d) ts)

pub comparison_sound : (n : ℕ) → Below Sounds n → (d : ℕ) (ts : List Lexeme) → Sound (IsComparison d (place ts)) ts (comparison_in (level n) ts)
unfolding comparison_in
comparison_sound n b d ts = sound_map (IsPair level_.Compare (IsSum d) (place ts)) (IsComparison d (place ts)) ts _ (λ w x. comparison_of)
    (pair_sound level_.Compare (IsSum d) (sum_in (level n)) (sum_sound n b d) ts)

pub equality_sound : (n : ℕ) → Below Sounds n → (d : ℕ) (ts : List Lexeme) → Sound (IsEquality d (place ts)) ts (equality_in (level n) ts)
unfolding equality_in
equality_sound n b d ts = sound_map (IsPair level_.Equal (IsComparison d) (place ts)) (IsEquality d (place ts)) ts _ (λ w x. equality_of)
    (pair_sound level_.Equal (IsComparison d) (comparison_in (level n)) (comparison_sound n b d) ts)

pub conjunction_sound : (n : ℕ) → Below Sounds n → (d : ℕ) (ts : List Lexeme) → Sound (IsConjunction d (place ts)) ts (conjunction_in (level n) ts)
unfolding conjunction_in
conjunction_sound n b d ts = sound_map (IsChain level_.And (IsEquality d) (place ts)) (IsConjunction d (place ts)) ts _ (λ w x. conjunction_of)
    (chain_sound level_.And (IsEquality d) (equality_in (level n)) (equality_sound n b d) ts)

pub expr_sound : (n : ℕ) → Below Sounds n → (d : ℕ) (ts : List Lexeme) → Sound (IsExpr d (place ts)) ts (expr_in (level n) ts)
unfolding expr_in
expr_sound n b d ts = sound_map (IsChain level_.Or (IsConjunction d) (place ts)) (IsExpr d (place ts)) ts _ (λ w x. disjunction_of)
    (chain_sound level_.Or (IsConjunction d) (conjunction_in (level n)) (conjunction_sound n b d) ts)

-- a further argument with its comma
pub data IsArg (d : ℕ) : List Part → Expr → Type 0 where
  one_arg : {o p : Place} {w : List Part} {e : Expr} → IsExpr d p w e → IsArg d (mark mark_.Comma o ∷ w) e

pub arg_sound : (n : ℕ) → Below Sounds n → (d k : ℕ) (ts : List Lexeme) → begins (Marked mark_.Comma) ts ≡ true → Sound (IsArg d) ts (arg_in (level n) k ts)
unfolding arg_in
arg_sound n b d k ts h = by_answer (expr_in (level n) (behind ts)) (expr_sound n b d (behind ts))
  where
    by_answer : (r : Answer Expr) → Sound (IsExpr d (place (behind ts))) (behind ts) r → Sound (IsArg d) ts r
    by_answer (Ok x) s = record { words = mark mark_.Comma (place ts) ∷ s.words; split = begins_is (Marked mark_.Comma) ts h ∙ ap (λ (i : List Lexeme). lexeme (Marked mark_.Comma) (place ts) ∷ i) s.split; is = one_arg s.is }
    by_answer (Err f) s = tt

pub more_of : {d k : ℕ} {w : List Part} {es : List Expr} → Row (λ _. IsArg d) k w es → IsMoreArgs d w es
more_of none = no_more_arg
more_of (next (one_arg i) is) = then_arg i (more_of is)

pub args_sound : (n : ℕ) → Below Sounds n → (d : ℕ) (ts : List Lexeme) → Sound (IsArgs d) ts (args_in (level n) ts)
unfolding args_in
args_sound n b d ts = sound_if (IsArgs d) ts (begins (Marked mark_.CloseParen) ts) (Ok ([], ts)) _
    (λ h. record { words = []; split = refl; is = no_arg })
    (λ h. sound_bind (IsExpr d (place ts)) (IsArgs d) ts ts _ _ (expr_sound n b d ts)
    (λ e te. sound_bind (Row (λ _. IsArg d) 1) (IsArgs d) e.1 ts _ _ (many_sound (λ _. IsArg d) (begins (Marked mark_.Comma)) (arg_in (level n)) (arg_sound n b d) (length e.1) 1 e.1)
    (λ es tes. record { words = te.words ++ tes.words; split = glue _ _ _ _ _ te.split tes.split; is = args te.is (more_of tes.is) })))

pub sounds : (n : ℕ) → Sounds n
sounds zero = record { expr_is = expr_sound zero tt; unary_is = unary_sound zero tt; args_is = args_sound zero tt }
sounds (suc n) = record { expr_is = expr_sound (suc n) (sounds n); unary_is = unary_sound (suc n) (sounds n); args_is = args_sound (suc n) (sounds n) }

pub sounds_below : (n : ℕ) → Below Sounds n
sounds_below zero = tt
sounds_below (suc n) = sounds n
