-- What is in the grammar of expressions and arguments is read, with its tree, whatever fits behind it.
use Rattle.std.proofs.Common.{◌≡◌, ℕ, zero, suc, true, false, List, [], ◌∷◌, ◌++◌, length, Ok, refl, ◌∙◌, ap, ◌+◌, ◌≤◌, arith}
use Rattle.jn_base.specs.declared.tree.Place.{Place}
use Rattle.jn_base.specs.declared.tree.ViewTerm.{ViewTerm}
use Rattle.jn_base.specs.declared.tree.Expr.{Expr}
use Rattle.jn_base.specs.declared.tree.Node.TheVariants as node
use Rattle.jn_base.specs.declared.tree.Level.TheVariants as level_
use Rattle.jn_base.specs.declared.tree.Op.{Op}
use Rattle.jn_base.specs.declared.tree.Link.{Link}
use Rattle.jn_base.specs.declared.word.Keyword.TheVariants.{View}
use Rattle.jn_base.specs.declared.word.Mark.{Mark}
use Rattle.jn_base.specs.declared.word.Mark.TheVariants.{Bang, CloseParen, Comma, Dot, Minus, OpenParen}
use Rattle.jn_base.specs.declared.word.Word.TheVariants.{Keyword as Key, Mark as Marked}
use Rattle.jn_base.specs.declared.word.Lexeme.{Lexeme}
use Rattle.jn_base.specs.Words.{lexeme}
use Rattle.jn_base.specs.Parts.{Part, key, mark, opening, expr, posted, link}
use Rattle.jn_base.specs.GrammarTypes.{IsView}
use Rattle.jn_base.specs.GrammarExpr.{IsOperator, or, and, equal, not_equal, less, less_equal, greater, greater_equal, plus, minus, times, over, remainder, new_object, super_call, IsPrim, constant, yes, no, null, this_object, variable, parens, form, IsPost, post, IsUnary, inverse, negative, viewed, unsigned, IsProduct, product, IsFactors, no_factor, then_factor, IsSum, sum, IsSummands, no_summand, then_summand, IsComparison, one_sum, two_sums, IsEquality, one_side, two_sides, IsConjunction, conjunction, IsConjuncts, no_conjunct, then_conjunct, IsExpr, disjunction, IsDisjuncts, no_disjunct, then_disjunct, IsArgs, no_arg, args, IsMoreArgs, no_more_arg, then_arg}
use Rattle.jn_grammar.specs.Begins.{begins, place, lexemes}
use Rattle.jn_grammar.specs.Answers.{◌>>=◌, expect, row}
use Rattle.jn_grammar.specs.ReadTypes.{view_in}
use Rattle.jn_grammar.specs.ReadExprs.{begins_view, prim_in, suffix_in, post_in, viewed_in, inverse_in, negative_in, unary_in, product_in, sum_in, comparison_in, equality_in, conjunction_in, expr_in, arg_in, args_in, level, goes_on}
use Rattle.jn_grammar.proofs.Tools.{Below}
use Rattle.jn_grammar.proofs.Row.{Row, none, next}
use Rattle.jn_grammar.proofs.ChainSound.{IsLink, one_link, IsArg, one_arg}
use Rattle.jn_grammar.proofs.Meets.{Reads, then_reads, if_false}
use Rattle.jn_grammar.proofs.TermsAgain.{row_again, read_then}
use Rattle.jn_grammar.proofs.TypesAgain.{view_again}
use Rattle.jn_grammar.proofs.ChainAgain.{Starts, starts, starts_append, place_is, no_view, no_close, Operands, chain_again, alone_again, two_again}
use Rattle.jn_grammar.proofs.ExprAgain.{EndsPost, EndsProduct, EndsSum, EndsComparison, EndsEquality, EndsConjunction, EndsExpr, paren_ends, Agains, denied_again, allowed_again, deeper, prim_again, suffixes_again}

-- HOW EACH BEGINS
pub prim_starts : {d : ℕ} {p : Place} {w : List Part} {e : Expr} → IsPrim d p w e → Starts p w
prim_starts constant = starts refl refl
prim_starts yes = starts refl refl
prim_starts no = starts refl refl
prim_starts null = starts refl refl
prim_starts this_object = starts refl refl
prim_starts variable = starts refl refl
prim_starts (parens c i) = starts refl refl
prim_starts (form (new_object o c i j)) = starts refl refl
prim_starts (form (super_call r s o m u c i j)) = starts refl refl

pub post_starts : {d : ℕ} {p : Place} {w : List Part} {e : Expr} → IsPost d p w e → Starts p w
post_starts (post {w = w} i is) = starts_append (prim_starts i) w

pub unary_starts : {d : ℕ} {p : Place} {w : List Part} {e : Expr} → IsUnary d p w e → Starts p w
unary_starts (inverse i) = starts refl refl
unary_starts (negative i) = starts refl refl
unary_starts (viewed o c i j) = starts refl refl
unary_starts (unsigned i) = post_starts i

pub product_starts : {d : ℕ} {p : Place} {w : List Part} {e : Expr} → IsProduct d p w e → Starts p w
product_starts (product {w = w} i is) = starts_append (unary_starts i) w

pub sum_starts : {d : ℕ} {p : Place} {w : List Part} {e : Expr} → IsSum d p w e → Starts p w
sum_starts (sum {w = w} i is) = starts_append (product_starts i) w

pub comparison_starts : {d : ℕ} {p : Place} {w : List Part} {e : Expr} → IsComparison d p w e → Starts p w
comparison_starts (one_sum i) = sum_starts i
comparison_starts (two_sums {m = m} r {w = w} i o j) = starts_append (sum_starts i) (mark m r ∷ w)

pub equality_starts : {d : ℕ} {p : Place} {w : List Part} {e : Expr} → IsEquality d p w e → Starts p w
equality_starts (one_side i) = comparison_starts i
equality_starts (two_sides {m = m} r {w = w} i o j) = starts_append (comparison_starts i) (mark m r ∷ w)

pub conjunction_starts : {d : ℕ} {p : Place} {w : List Part} {e : Expr} → IsConjunction d p w e → Starts p w
conjunction_starts (conjunction {w = w} i is) = starts_append (equality_starts i) w

pub expr_starts : {d : ℕ} {p : Place} {w : List Part} {e : Expr} → IsExpr d p w e → Starts p w
expr_starts (disjunction {w = w} i is) = starts_append (conjunction_starts i) w

-- UNARIES
pub post_again : (n : ℕ) → Below Agains n → {d : ℕ} {p : Place} {w : List Part} {e : Expr} → IsPost d p w e → d + n ≡ 200 → (v : List Lexeme) → EndsPost v → Reads (post_in (level n)) w v e
unfolding post_in
post_again n b {p = p} (post {v = u} {w} {e} {ss} i is) room v a =
    let ts : List Lexeme = lexemes (u ++ w) ++ v in
    then_reads (prim_in (level n)) (λ e. row (begins (Marked Dot)) (suffix_in (level n)) 1 e.1 >>= λ ss. Ok (posted (place ts) e.0 ss.0, ss.1)) u w v e _ (prim_again n b i room (lexemes w ++ v))
    (read_then (row (begins (Marked Dot)) (suffix_in (level n)) 1) (λ ss. Ok (posted (place ts) e ss.0, ss.1)) w v ss _ (suffixes_again n b is room v a)
    (ap (λ (q : Place). Ok (posted q e ss, v)) (place_is (starts_append (prim_starts i) w) v)))

pub viewed_again : (n : ℕ) → Below Agains n → {d : ℕ} (p : Place) {q : Place} (o c : Place) {u w : List Part} {t : ViewTerm} {e : Expr} → IsView (suc d) u t → IsUnary (suc d) q w e → d + n ≡ 200 → (v : List Lexeme) → EndsPost v
    → Reads (viewed_in (level n)) (opening d OpenParen p ∷ key View o ∷ (u ++ mark CloseParen c ∷ w)) v (expr p (node.View t e))
unfolding viewed_in level
viewed_again zero b {d} p o c {u} {w} {t} {e} i j room v a = denied_again d room (Marked OpenParen) p (key View o ∷ (u ++ mark CloseParen c ∷ w)) v (expr p (node.View t e))
viewed_again (suc n) b {d} p o c {u} {w} {t} {e} i j room v a =
    allowed_again d n room (key View o ∷ (u ++ mark CloseParen c ∷ w)) v (expr p (node.View t e)) _
    (then_reads (view_in n) (λ t. expect (Marked CloseParen) t.1 >>= λ shut. unary_in (level n) shut.1 >>= λ e. Ok (expr p (node.View t.0 e.0), e.1)) u (mark CloseParen c ∷ w) v t _
    (view_again i n (deeper d n room) (lexeme (Marked CloseParen) c ∷ (lexemes w ++ v)) (record { term = record { names = record { dot = refl; bang = refl }; bracket = refl }; mask = refl }))
    (read_then (unary_in (level n)) (λ e. Ok (expr p (node.View t e.0), e.1)) w v e _ (b.unary_again j (deeper d n room) v a) refl))

pub inverse_again : (n : ℕ) → Below Agains n → {d : ℕ} (p : Place) {q : Place} {w : List Part} {e : Expr} → IsUnary (suc d) q w e → d + n ≡ 200 → (v : List Lexeme) → EndsPost v
    → Reads (inverse_in (level n)) (opening d Bang p ∷ w) v (expr p (node.Not e))
unfolding inverse_in level
inverse_again zero b {d} p {w = w} {e} i room v a = denied_again d room (Marked Bang) p w v (expr p (node.Not e))
inverse_again (suc n) b {d} p {w = w} {e} i room v a = allowed_again d n room w v (expr p (node.Not e)) _
    (read_then (unary_in (level n)) (λ e. Ok (expr p (node.Not e.0), e.1)) w v e _ (b.unary_again i (deeper d n room) v a) refl)

pub negative_again : (n : ℕ) → Below Agains n → {d : ℕ} (p : Place) {q : Place} {w : List Part} {e : Expr} → IsUnary (suc d) q w e → d + n ≡ 200 → (v : List Lexeme) → EndsPost v
    → Reads (negative_in (level n)) (opening d Minus p ∷ w) v (expr p (node.Neg e))
unfolding negative_in level
negative_again zero b {d} p {w = w} {e} i room v a = denied_again d room (Marked Minus) p w v (expr p (node.Neg e))
negative_again (suc n) b {d} p {w = w} {e} i room v a = allowed_again d n room w v (expr p (node.Neg e)) _
    (read_then (unary_in (level n)) (λ e. Ok (expr p (node.Neg e.0), e.1)) w v e _ (b.unary_again i (deeper d n room) v a) refl)

-- A Post begins with no prefix.
pub record NoPrefix (ts : List Lexeme) : Type 0 where
  pub bang : begins (Marked Bang) ts ≡ false
  pub minus : begins (Marked Minus) ts ≡ false
  pub view : begins_view ts ≡ false

in_parens : {q : Place} {w : List Part} → Starts q w → (x y : List Part) (v : List Lexeme) → begins (Key View) (lexemes ((w ++ x) ++ y) ++ v) ≡ false
in_parens s x y v = no_view (starts_append (starts_append s x) y) v

pub prim_no_prefix : {d : ℕ} {p : Place} {w : List Part} {e : Expr} → IsPrim d p w e → (u : List Part) (v : List Lexeme) → NoPrefix (lexemes (w ++ u) ++ v)
prim_no_prefix constant u v = record { bang = refl; minus = refl; view = refl }
prim_no_prefix yes u v = record { bang = refl; minus = refl; view = refl }
prim_no_prefix no u v = record { bang = refl; minus = refl; view = refl }
prim_no_prefix null u v = record { bang = refl; minus = refl; view = refl }
prim_no_prefix this_object u v = record { bang = refl; minus = refl; view = refl }
prim_no_prefix variable u v = record { bang = refl; minus = refl; view = refl }
prim_no_prefix (parens c i) u v = record { bang = refl; minus = refl; view = in_parens (expr_starts i) (mark CloseParen c ∷ []) u v }
prim_no_prefix (form (new_object o c i j)) u v = record { bang = refl; minus = refl; view = refl }
prim_no_prefix (form (super_call r s o m y c i j)) u v = record { bang = refl; minus = refl; view = refl }

pub post_no_prefix : {d : ℕ} {p : Place} {w : List Part} {e : Expr} → IsPost d p w e → (v : List Lexeme) → NoPrefix (lexemes w ++ v)
post_no_prefix (post {w = w} i is) v = prim_no_prefix i w v

pub unary_again : (n : ℕ) → Below Agains n → {d : ℕ} {p : Place} {w : List Part} {e : Expr} → IsUnary d p w e → d + n ≡ 200 → (v : List Lexeme) → EndsPost v → Reads (unary_in (level n)) w v e
unfolding unary_in
unary_again n b (inverse {p = p} i) room v a = inverse_again n b p i room v a
unary_again n b (negative {p = p} i) room v a = negative_again n b p i room v a
unary_again n b (viewed {p = p} o c i j) room v a = viewed_again n b p o c i j room v a
unary_again n b (unsigned {w = w} i) room v a =
    let h = post_no_prefix i v in
    let ts : List Lexeme = lexemes w ++ v in
    if_false (begins (Marked Bang) ts) _ _ h.bang ∙ if_false (begins (Marked Minus) ts) _ _ h.minus ∙ if_false (begins_view ts) _ _ h.view ∙ post_again n b i room v a

-- ROWS OF LINKS
row_factors : {d k : ℕ} {w : List Part} {ls : List Link} → IsFactors d w ls → Row (λ _. IsLink level_.Product (IsUnary d)) k w ls
row_factors no_factor = none
row_factors (then_factor {p = p} {q = q} o i is) = next (one_link p q o i) (row_factors is)

row_summands : {d k : ℕ} {w : List Part} {ls : List Link} → IsSummands d w ls → Row (λ _. IsLink level_.Sum (IsProduct d)) k w ls
row_summands no_summand = none
row_summands (then_summand {p = p} {q = q} o i is) = next (one_link p q o i) (row_summands is)

row_conjuncts : {d k : ℕ} {w : List Part} {ls : List Link} → IsConjuncts d w ls → Row (λ _. IsLink level_.And (IsEquality d)) k w ls
row_conjuncts no_conjunct = none
row_conjuncts (then_conjunct {p = p} {q = q} o i is) = next (one_link p q o i) (row_conjuncts is)

row_disjuncts : {d k : ℕ} {w : List Part} {ls : List Link} → IsDisjuncts d w ls → Row (λ _. IsLink level_.Or (IsConjunction d)) k w ls
row_disjuncts no_disjunct = none
row_disjuncts (then_disjunct {p = p} {q = q} o i is) = next (one_link p q o i) (row_disjuncts is)

-- THE LEVELS
post_stops : (m : Mark) (o : Op) → IsOperator level_.Product m o → (p : Place) (v : List Lexeme) → EndsPost (lexeme (Marked m) p ∷ v)
post_stops m o times p v = record { dot = refl; open_paren = refl }
post_stops m o over p v = record { dot = refl; open_paren = refl }
post_stops m o remainder p v = record { dot = refl; open_paren = refl }

unaries : (n : ℕ) → Below Agains n → (d : ℕ) → d + n ≡ 200 → Operands level_.Product (IsUnary d) (unary_in (level n)) EndsPost
unaries n b d room = record { again = λ p w e i v a. unary_again n b i room v a; start = λ p w e i. unary_starts i; stop = post_stops }

pub product_again : (n : ℕ) → Below Agains n → {d : ℕ} {p : Place} {w : List Part} {e : Expr} → IsProduct d p w e → d + n ≡ 200 → (v : List Lexeme) → EndsProduct v → Reads (product_in (level n)) w v e
unfolding product_in
product_again n b {d} {p} (product {v = u} {w} {e} {ls} i is) room v a =
    chain_again level_.Product (IsUnary d) (unary_in (level n)) EndsPost (unaries n b d room) p u w e ls i (row_factors is) v a.post a.product

product_stops : (m : Mark) (o : Op) → IsOperator level_.Sum m o → (p : Place) (v : List Lexeme) → EndsProduct (lexeme (Marked m) p ∷ v)
product_stops m o plus p v = record { post = record { dot = refl; open_paren = refl }; product = refl }
product_stops m o minus p v = record { post = record { dot = refl; open_paren = refl }; product = refl }

products : (n : ℕ) → Below Agains n → (d : ℕ) → d + n ≡ 200 → Operands level_.Sum (IsProduct d) (product_in (level n)) EndsProduct
products n b d room = record { again = λ p w e i v a. product_again n b i room v a; start = λ p w e i. product_starts i; stop = product_stops }

pub sum_again : (n : ℕ) → Below Agains n → {d : ℕ} {p : Place} {w : List Part} {e : Expr} → IsSum d p w e → d + n ≡ 200 → (v : List Lexeme) → EndsSum v → Reads (sum_in (level n)) w v e
unfolding sum_in
sum_again n b {d} {p} (sum {v = u} {w} {e} {ls} i is) room v a =
    chain_again level_.Sum (IsProduct d) (product_in (level n)) EndsProduct (products n b d room) p u w e ls i (row_summands is) v a.below a.sum

sum_end : (p : Place) (m : Mark) (v : List Lexeme) → EndsProduct (lexeme (Marked m) p ∷ v) → goes_on level_.Sum (lexeme (Marked m) p ∷ v) ≡ false → EndsSum (lexeme (Marked m) p ∷ v)
sum_end p m v a e = record { below = a; sum = e }

sum_stops : (m : Mark) (o : Op) → IsOperator level_.Compare m o → (p : Place) (v : List Lexeme) → EndsSum (lexeme (Marked m) p ∷ v)
sum_stops m o less p v = record { below = record { post = record { dot = refl; open_paren = refl }; product = refl }; sum = refl }
sum_stops m o less_equal p v = record { below = record { post = record { dot = refl; open_paren = refl }; product = refl }; sum = refl }
sum_stops m o greater p v = record { below = record { post = record { dot = refl; open_paren = refl }; product = refl }; sum = refl }
sum_stops m o greater_equal p v = record { below = record { post = record { dot = refl; open_paren = refl }; product = refl }; sum = refl }

sums : (n : ℕ) → Below Agains n → (d : ℕ) → d + n ≡ 200 → Operands level_.Compare (IsSum d) (sum_in (level n)) EndsSum
sums n b d room = record { again = λ p w e i v a. sum_again n b i room v a; start = λ p w e i. sum_starts i; stop = sum_stops }

pub comparison_again : (n : ℕ) → Below Agains n → {d : ℕ} {p : Place} {w : List Part} {e : Expr} → IsComparison d p w e → d + n ≡ 200 → (v : List Lexeme) → EndsComparison v → Reads (comparison_in (level n)) w v e
unfolding comparison_in
comparison_again n b {d} {p} (one_sum {w = w} {e} i) room v a = alone_again level_.Compare (IsSum d) (sum_in (level n)) EndsSum (sums n b d room) p w e i v a.below a.compare
comparison_again n b {d} {p} (two_sums {m = m} {o} {q = q} r {v = u} {w} {e} {f} i j k) room v a =
    two_again level_.Compare (IsSum d) (sum_in (level n)) EndsSum (sums n b d room) p u (mark m r ∷ w) e (link o r f) i (one_link r q j k) v a.below

comparison_stops : (m : Mark) (o : Op) → IsOperator level_.Equal m o → (p : Place) (v : List Lexeme) → EndsComparison (lexeme (Marked m) p ∷ v)
comparison_stops m o equal p v = record { below = record { below = record { post = record { dot = refl; open_paren = refl }; product = refl }; sum = refl }; compare = refl }
comparison_stops m o not_equal p v = record { below = record { below = record { post = record { dot = refl; open_paren = refl }; product = refl }; sum = refl }; compare = refl }

comparisons : (n : ℕ) → Below Agains n → (d : ℕ) → d + n ≡ 200 → Operands level_.Equal (IsComparison d) (comparison_in (level n)) EndsComparison
comparisons n b d room = record { again = λ p w e i v a. comparison_again n b i room v a; start = λ p w e i. comparison_starts i; stop = comparison_stops }

pub equality_again : (n : ℕ) → Below Agains n → {d : ℕ} {p : Place} {w : List Part} {e : Expr} → IsEquality d p w e → d + n ≡ 200 → (v : List Lexeme) → EndsEquality v → Reads (equality_in (level n)) w v e
unfolding equality_in
equality_again n b {d} {p} (one_side {w = w} {e} i) room v a = alone_again level_.Equal (IsComparison d) (comparison_in (level n)) EndsComparison (comparisons n b d room) p w e i v a.below a.equal
equality_again n b {d} {p} (two_sides {m = m} {o} {q = q} r {v = u} {w} {e} {f} i j k) room v a =
    two_again level_.Equal (IsComparison d) (comparison_in (level n)) EndsComparison (comparisons n b d room) p u (mark m r ∷ w) e (link o r f) i (one_link r q j k) v a.below

equality_stops : (m : Mark) (o : Op) → IsOperator level_.And m o → (p : Place) (v : List Lexeme) → EndsEquality (lexeme (Marked m) p ∷ v)
equality_stops m o and p v = record { below = record { below = record { below = record { post = record { dot = refl; open_paren = refl }; product = refl }; sum = refl }; compare = refl }; equal = refl }

equalities : (n : ℕ) → Below Agains n → (d : ℕ) → d + n ≡ 200 → Operands level_.And (IsEquality d) (equality_in (level n)) EndsEquality
equalities n b d room = record { again = λ p w e i v a. equality_again n b i room v a; start = λ p w e i. equality_starts i; stop = equality_stops }

pub conjunction_again : (n : ℕ) → Below Agains n → {d : ℕ} {p : Place} {w : List Part} {e : Expr} → IsConjunction d p w e → d + n ≡ 200 → (v : List Lexeme) → EndsConjunction v → Reads (conjunction_in (level n)) w v e
unfolding conjunction_in
conjunction_again n b {d} {p} (conjunction {v = u} {w} {e} {ls} i is) room v a =
    chain_again level_.And (IsEquality d) (equality_in (level n)) EndsEquality (equalities n b d room) p u w e ls i (row_conjuncts is) v a.below a.and

conjunction_stops : (m : Mark) (o : Op) → IsOperator level_.Or m o → (p : Place) (v : List Lexeme) → EndsConjunction (lexeme (Marked m) p ∷ v)
conjunction_stops m o or p v = record { below = record { below = record { below = record { below = record { post = record { dot = refl; open_paren = refl }; product = refl }; sum = refl }; compare = refl }; equal = refl }; and = refl }

conjunctions : (n : ℕ) → Below Agains n → (d : ℕ) → d + n ≡ 200 → Operands level_.Or (IsConjunction d) (conjunction_in (level n)) EndsConjunction
conjunctions n b d room = record { again = λ p w e i v a. conjunction_again n b i room v a; start = λ p w e i. conjunction_starts i; stop = conjunction_stops }

pub expr_again : (n : ℕ) → Below Agains n → {d : ℕ} {p : Place} {w : List Part} {e : Expr} → IsExpr d p w e → d + n ≡ 200 → (v : List Lexeme) → EndsExpr v → Reads (expr_in (level n)) w v e
unfolding expr_in
expr_again n b {d} {p} (disjunction {v = u} {w} {e} {ls} i is) room v a =
    chain_again level_.Or (IsConjunction d) (conjunction_in (level n)) EndsConjunction (conjunctions n b d room) p u w e ls i (row_disjuncts is) v a.below a.or

-- ARGUMENTS
comma_ends : (o : Place) (v : List Lexeme) → EndsExpr (lexeme (Marked Comma) o ∷ v)
comma_ends o v = record { below = record { below = record { below = record { below = record { below = record { post = record { dot = refl; open_paren = refl }; product = refl }; sum = refl }; compare = refl }; equal = refl }; and = refl }; or = refl }

row_args : {d k : ℕ} {w : List Part} {es : List Expr} → IsMoreArgs d w es → Row (λ _. IsArg d) k w es
row_args no_more_arg = none
row_args (then_arg i is) = next (one_arg i) (row_args is)

arg_again : (n : ℕ) → Below Agains n → (d : ℕ) → d + n ≡ 200 → (k : ℕ) (w : List Part) (e : Expr) → IsArg d w e → (v : List Lexeme) → EndsExpr v → Reads (arg_in (level n) k) w v e
unfolding arg_in
arg_again n b d room k w e (one_arg i) v a = expr_again n b i room v a

arg_head : (d k : ℕ) (w : List Part) (e : Expr) → IsArg d w e → (v : List Lexeme) → (begins (Marked Comma) (lexemes w ++ v) ≡ true) × (1 ≤ length w) × EndsExpr (lexemes w ++ v)
arg_head d k w e (one_arg {o = o} {w = u} i) v = (refl, omega arith, comma_ends o (lexemes u ++ v))

args_end : {d : ℕ} {w : List Part} {es : List Expr} → IsMoreArgs d w es → (c : Place) (v : List Lexeme) → EndsExpr (lexemes w ++ lexeme (Marked CloseParen) c ∷ v)
args_end no_more_arg c v = paren_ends c v
args_end (then_arg {o = o} {v = u} {w} i is) c v = comma_ends o (lexemes (u ++ w) ++ lexeme (Marked CloseParen) c ∷ v)

pub args_again : (n : ℕ) → Below Agains n → {d : ℕ} {w : List Part} {es : List Expr} → IsArgs d w es → d + n ≡ 200 → (c : Place) (v : List Lexeme) → Reads (args_in (level n)) w (lexeme (Marked CloseParen) c ∷ v) es
unfolding args_in
args_again n b no_arg room c v = refl
args_again n b {d} (args {v = u} {w} {e} {es} i is) room c v =
    let z : List Lexeme = lexeme (Marked CloseParen) c ∷ v in
    if_false (begins (Marked CloseParen) (lexemes (u ++ w) ++ z)) _ _ (no_close (starts_append (expr_starts i) w) z)
    ∙ then_reads (expr_in (level n)) (λ e. row (begins (Marked Comma)) (arg_in (level n)) 1 e.1 >>= λ es. Ok (e.0 ∷ es.0, es.1)) u w z e _ (expr_again n b i room (lexemes w ++ z) (args_end is c v))
    (read_then (row (begins (Marked Comma)) (arg_in (level n)) 1) (λ es. Ok (e ∷ es.0, es.1)) w z es _
    (row_again (λ _. IsArg d) (begins (Marked Comma)) (arg_in (level n)) EndsExpr (arg_head d) (arg_again n b d room) (row_args {k = 1} is) z refl (paren_ends c v)) refl)

pub agains : (n : ℕ) → Agains n
agains zero = record { expr_again = λ i. expr_again zero tt i; unary_again = λ i. unary_again zero tt i; args_again = λ i. args_again zero tt i }
agains (suc n) = record { expr_again = λ i. expr_again (suc n) (agains n) i; unary_again = λ i. unary_again (suc n) (agains n) i; args_again = λ i. args_again (suc n) (agains n) i }

pub agains_below : (n : ℕ) → Below Agains n
agains_below zero = tt
agains_below (suc n) = agains n
