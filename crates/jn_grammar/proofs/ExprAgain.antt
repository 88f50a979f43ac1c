-- What is in the grammar of primaries, parts and operands is read, with its tree, whatever fits behind it.
use Rattle.std.proofs.Common.{◌≡◌, ℕ, zero, suc, true, false, List, [], ◌∷◌, ◌++◌, length, Some, Ok, Err, refl, sym, ◌∙◌, ap, ◌+◌, ◌≤◌, arith, length-append}
use Rattle.jn_base.specs.declared.tree.Name.{Name}
use Rattle.jn_base.specs.declared.tree.Place.{Place}
use Rattle.jn_base.specs.declared.tree.Term.{Term}
use Rattle.jn_base.specs.declared.tree.Expr.{Expr}
use Rattle.jn_base.specs.declared.tree.Node.TheVariants as node
use Rattle.jn_base.specs.declared.tree.Suffix.{Suffix}
use Rattle.jn_base.specs.declared.tree.Level.TheVariants as level_
use Rattle.jn_base.specs.declared.word.Mark.TheVariants.{CloseBracket, CloseParen, Dot, OpenBracket, OpenParen}
use Rattle.jn_base.specs.declared.word.Word.{Word}
use Rattle.jn_base.specs.declared.word.Word.TheVariants.{Mark as Marked}
use Rattle.jn_base.specs.declared.word.Lexeme.{Lexeme}
use Rattle.jn_base.specs.Words.{lexeme}
use Rattle.jn_base.specs.Parts.{Part, Opens, mark, name, opening, named, expr, suffix}
use Rattle.jn_base.specs.GrammarTypes.{IsTerm}
use Rattle.jn_base.specs.GrammarExpr.{new_object, super_call, IsPrim, constant, yes, no, null, this_object, variable, parens, form, IsSuffix, field, call, IsSuffixes, no_suffix, then_suffix, IsUnary, IsExpr, IsArgs}
use Rattle.jn_base.specs.declared.refusal.Limit.TheVariants.{Nesting}
use Rattle.jn_base.specs.Spelling.{limit_of}
use Rattle.jn_grammar.specs.declared.fault.Fault.TheVariants.{Passed}
use Rattle.jn_grammar.specs.Begins.{begins, lexemes}
use Rattle.jn_grammar.specs.Answers.{Answer, ◌>>=◌, expect, row}
use Rattle.jn_grammar.specs.ReadTypes.{term_in}
use Rattle.jn_grammar.specs.ReadExprs.{shut_args_in, call_args_in, new_in, super_call_in, super_in, parens_in, prim_by, prim_in, call_in, suffix_in, unary_in, expr_in, args_in, level, goes_on}
use Rattle.jn_grammar.proofs.Tools.{Below, length_lexemes}
use Rattle.jn_grammar.proofs.Row.{Row, none, next}
use Rattle.jn_grammar.proofs.ExprSound.{IsCallArgs, call_args}
use Rattle.jn_grammar.proofs.Meets.{met, meets, Reads, then_reads, if_false}
use Rattle.jn_grammar.proofs.TermsAgain.{EndsTerm, row_again, read_then, deep, shallow, term_again}

-- What no Post goes on with; no operand of the level and none of those below; no expression.
pub record EndsPost (v : List Lexeme) : Type 0 where
  pub dot : begins (Marked Dot) v ≡ false
  pub open_paren : begins (Marked OpenParen) v ≡ false

pub record EndsProduct (v : List Lexeme) : Type 0 where
  pub post : EndsPost v
  pub product : goes_on level_.Product v ≡ false

pub record EndsSum (v : List Lexeme) : Type 0 where
  pub below : EndsProduct v
  pub sum : goes_on level_.Sum v ≡ false

pub record EndsComparison (v : List Lexeme) : Type 0 where
  pub below : EndsSum v
  pub compare : goes_on level_.Compare v ≡ false

pub record EndsEquality (v : List Lexeme) : Type 0 where
  pub below : EndsComparison v
  pub equal : goes_on level_.Equal v ≡ false

pub record EndsConjunction (v : List Lexeme) : Type 0 where
  pub below : EndsEquality v
  pub and : goes_on level_.And v ≡ false

pub record EndsExpr (v : List Lexeme) : Type 0 where
  pub below : EndsConjunction v
  pub or : goes_on level_.Or v ≡ false

-- a ")" and more
pub paren_ends : (c : Place) (v : List Lexeme) → EndsExpr (lexeme (Marked CloseParen) c ∷ v)
paren_ends c v = record { below = record { below = record { below = record { below = record { below = record { post = record { dot = refl; open_paren = refl }; product = refl }; sum = refl }; compare = refl }; equal = refl }; and = refl }; or = refl }

-- What holds of the readers where n more may open.
pub record Agains (n : ℕ) : Type 0 where
  pub expr_again : {d : ℕ} {p : Place} {w : List Part} {e : Expr} → IsExpr d p w e → d + n ≡ 200 → (v : List Lexeme) → EndsExpr v → Reads (expr_in (level n)) w v e
  pub unary_again : {d : ℕ} {p : Place} {w : List Part} {e : Expr} → IsUnary d p w e → d + n ≡ 200 → (v : List Lexeme) → EndsPost v → Reads (unary_in (level n)) w v e
  pub args_again : {d : ℕ} {w : List Part} {es : List Expr} → IsArgs d w es → d + n ≡ 200 → (c : Place) (v : List Lexeme) → Reads (args_in (level n)) w (lexeme (Marked CloseParen) c ∷ v) es

-- what opens where no more may open
pub denied_again : {A : Type 0} (d : ℕ) → d + 0 ≡ 200 → (m : Word) (p : Place) (w : List Part) (v : List Lexeme) (x : A)
    → ◌≡◌ {A = Answer A} (Err (Passed Nesting (length (lexeme m p ∷ (lexemes w ++ v))))) (met (limit_of (Opens (suc d))) (suc (length w + length v)) (meets w v (Ok (x, v))))
denied_again {A} d room m p w v x =
    let same : length (lexeme m p ∷ (lexemes w ++ v)) ≡ suc (length w + length v) = omega (arith, length-append (lexemes w) v, length_lexemes w) in
    ap (λ i. Err (Passed Nesting i)) same ∙ sym (ap (λ l. met l (suc (length w + length v)) (meets w v (Ok (x, v)))) (deep d room))

-- what opens where one more may
pub allowed_again : {A : Type 0} (d n : ℕ) → d + suc n ≡ 200 → (w : List Part) (v : List Lexeme) (x : A) (r : Answer A)
    → r ≡ meets w v (Ok (x, v)) → r ≡ met (limit_of (Opens (suc d))) (suc (length w + length v)) (meets w v (Ok (x, v)))
allowed_again d n room w v x r e = e ∙ sym (ap (λ l. met l (suc (length w + length v)) (meets w v (Ok (x, v)))) (shallow d n room))

-- a deeper place
pub deeper : (d n : ℕ) → d + suc n ≡ 200 → suc d + n ≡ 200
deeper d n e = omega (arith, e)

pub shut_args_again : (n : ℕ) → Below Agains n → {d : ℕ} {w : List Part} {es : List Expr} → IsCallArgs d w es → d + n ≡ 200 → (v : List Lexeme) → Reads (shut_args_in (level n)) w v es
unfolding shut_args_in level
shut_args_again zero b {d} (call_args o c {w} {es} i) room v = denied_again d room (Marked OpenParen) o (w ++ mark CloseParen c ∷ []) v es
shut_args_again (suc n) b {d} (call_args o c {w} {es} i) room v =
    allowed_again d n room (w ++ mark CloseParen c ∷ []) v es _
    (then_reads (args_in (level n)) (λ es. expect (Marked CloseParen) es.1 >>= λ shut. Ok (es.0, shut.1)) w (mark CloseParen c ∷ []) v es (Ok (es, v)) (b.args_again i (deeper d n room) c v) refl)

pub call_args_again : (n : ℕ) → Below Agains n → {d : ℕ} {w : List Part} {es : List Expr} → IsCallArgs d w es → d + n ≡ 200 → (v : List Lexeme) → Reads (call_args_in (level n)) w v es
unfolding call_args_in
call_args_again n b (call_args o c i) room v = shut_args_again n b (call_args o c i) room v

at_again : (n : ℕ) {d : ℕ} {p : Place} {w : List Part} {t : Term} → IsTerm d p w t → d + n ≡ 200 → (v : List Lexeme) → EndsTerm v → Reads ((level n).term_at) w v t
unfolding level
at_again zero i room v a = term_again i zero room v a
at_again (suc n) i room v a = term_again i (suc n) room v a

pub new_again : (n : ℕ) → Below Agains n → {d : ℕ} (p : Place) {q : Place} (o c : Place) {u w : List Part} {t : Term} {es : List Expr} → IsTerm d q u t → IsArgs (suc d) w es → d + n ≡ 200 → (v : List Lexeme)
    → Reads (new_in (level n) p) (u ++ opening d OpenParen o ∷ (w ++ mark CloseParen c ∷ [])) v (expr p (node.New t es))
unfolding new_in
new_again n b {d} p o c {u} {w} {t} {es} i j room v =
    let args : List Part = opening d OpenParen o ∷ (w ++ mark CloseParen c ∷ []) in
    then_reads ((level n).term_at) (λ t. call_args_in (level n) t.1 >>= λ es. Ok (expr p (node.New t.0 es.0), es.1)) u args v t _
    (at_again n i room (lexemes args ++ v) (record { names = record { dot = refl; bang = refl }; bracket = refl }))
    (read_then (call_args_in (level n)) (λ es. Ok (expr p (node.New t es.0), es.1)) args v es _ (call_args_again n b (call_args o c j) room v) refl)

pub super_call_again : (n : ℕ) → Below Agains n → {d : ℕ} (p s o m u c : Place) (x : Name) {w : List Part} (t : Term) {es : List Expr} → IsArgs (suc d) w es → d + n ≡ 200 → (v : List Lexeme)
    → Reads (super_call_in (level n) p t) (mark CloseBracket s ∷ mark Dot o ∷ name x m ∷ opening d OpenParen u ∷ (w ++ mark CloseParen c ∷ [])) v (expr p (node.Super t (named x m) es))
unfolding super_call_in
super_call_again n b {d} p s o m u c x {w} t {es} j room v =
    read_then (call_args_in (level n)) (λ es. Ok (expr p (node.Super t (named x m) es.0), es.1)) (opening d OpenParen u ∷ (w ++ mark CloseParen c ∷ [])) v es _ (call_args_again n b (call_args u c j) room v) refl

pub super_again : (n : ℕ) → Below Agains n → {d : ℕ} (p : Place) {q : Place} (r s o m u c : Place) (x : Name) {y w : List Part} {t : Term} {es : List Expr} → IsTerm (suc d) q y t → IsArgs (suc d) w es → d + n ≡ 200 → (v : List Lexeme)
    → Reads (super_in (level n) p) (opening d OpenBracket r ∷ (y ++ mark CloseBracket s ∷ mark Dot o ∷ name x m ∷ opening d OpenParen u ∷ (w ++ mark CloseParen c ∷ []))) v (expr p (node.Super t (named x m) es))
unfolding super_in level
super_again zero b {d} p r s o m u c x {y} {w} {t} {es} i j room v =
    denied_again d room (Marked OpenBracket) r (y ++ mark CloseBracket s ∷ mark Dot o ∷ name x m ∷ opening d OpenParen u ∷ (w ++ mark CloseParen c ∷ [])) v (expr p (node.Super t (named x m) es))
super_again (suc n) b {d} p r s o m u c x {y} {w} {t} {es} i j room v =
    let others : List Part = mark CloseBracket s ∷ mark Dot o ∷ name x m ∷ opening d OpenParen u ∷ (w ++ mark CloseParen c ∷ []) in
    allowed_again d n room (y ++ others) v (expr p (node.Super t (named x m) es)) _
    (then_reads (term_in n) (λ t. super_call_in (level (suc n)) p t.0 t.1) y others v t _
    (term_again i n (deeper d n room) (lexemes others ++ v) (record { names = record { dot = refl; bang = refl }; bracket = refl }))
    (super_call_again (suc n) b p s o m u c x t j room v))

parens_again : (n : ℕ) → Below Agains n → {d : ℕ} (p : Place) {q : Place} (c : Place) {w : List Part} {e : Expr} → IsExpr (suc d) q w e → d + n ≡ 200 → (v : List Lexeme)
    → Reads (parens_in (level n)) (opening d OpenParen p ∷ (w ++ mark CloseParen c ∷ [])) v e
unfolding parens_in level
parens_again zero b {d} p c {w} {e} i room v = denied_again d room (Marked OpenParen) p (w ++ mark CloseParen c ∷ []) v e
parens_again (suc n) b {d} p c {w} {e} i room v =
    allowed_again d n room (w ++ mark CloseParen c ∷ []) v e _
    (then_reads (expr_in (level n)) (λ e. expect (Marked CloseParen) e.1 >>= λ shut. Ok (e.0, shut.1)) w (mark CloseParen c ∷ []) v e (Ok (e, v)) (b.expr_again i (deeper d n room) (lexeme (Marked CloseParen) c ∷ v) (paren_ends c v)) refl)

pub prim_again : (n : ℕ) → Below Agains n → {d : ℕ} {p : Place} {w : List Part} {e : Expr} → IsPrim d p w e → d + n ≡ 200 → (v : List Lexeme) → Reads (prim_in (level n)) w v e
unfolding prim_in prim_by
prim_again n b constant room v = refl
prim_again n b yes room v = refl
prim_again n b no room v = refl
prim_again n b null room v = refl
prim_again n b this_object room v = refl
prim_again n b variable room v = refl
prim_again n b (parens {p = p} c i) room v = parens_again n b p c i room v
prim_again n b (form (new_object {p = p} o c i j)) room v = new_again n b p o c i j room v
prim_again n b (form (super_call {p = p} r s o m u c {x} i j)) room v = super_again n b p r s o m u c x i j room v

-- parts
pub suffix_again : (n : ℕ) → Below Agains n → {d : ℕ} (k : ℕ) {w : List Part} {s : Suffix} → IsSuffix d w s → d + n ≡ 200 → (v : List Lexeme) → begins (Marked OpenParen) v ≡ false → Reads (suffix_in (level n) k) w v s
unfolding suffix_in call_in
suffix_again n b k (field {d} {x} {o} {p}) room v h = if_false (begins (Marked OpenParen) v) _ _ h
suffix_again n b k (call {d} {x} {o} {p} {q} c {w} {es} i) room v h =
    read_then (shut_args_in (level n)) (λ es. Ok (suffix x p (Some es.0), es.1)) (opening d OpenParen q ∷ (w ++ mark CloseParen c ∷ [])) v es _ (shut_args_again n b (call_args q c i) room v) refl

pub suffix_head : {d : ℕ} {w : List Part} {s : Suffix} → IsSuffix d w s → (v : List Lexeme) → (begins (Marked Dot) (lexemes w ++ v) ≡ true) × (1 ≤ length w) × (begins (Marked OpenParen) (lexemes w ++ v) ≡ false)
suffix_head field v = (refl, omega arith, refl)
suffix_head (call c i) v = (refl, omega arith, refl)

pub row_suffixes : {d k : ℕ} {w : List Part} {ss : List Suffix} → IsSuffixes d w ss → Row (λ _. IsSuffix d) k w ss
row_suffixes no_suffix = none
row_suffixes (then_suffix i is) = next i (row_suffixes is)

pub suffixes_again : (n : ℕ) → Below Agains n → {d : ℕ} {w : List Part} {ss : List Suffix} → IsSuffixes d w ss → d + n ≡ 200 → (v : List Lexeme) → EndsPost v → Reads (row (begins (Marked Dot)) (suffix_in (level n)) 1) w v ss
suffixes_again n b {d} is room v a = row_again (λ _. IsSuffix d) (begins (Marked Dot)) (suffix_in (level n)) (λ v. begins (Marked OpenParen) v ≡ false) (λ k w x i v. suffix_head i v) (λ k w x i v h. suffix_again n b k i room v h)
    (row_suffixes {k = 1} is) v a.dot a.open_paren
