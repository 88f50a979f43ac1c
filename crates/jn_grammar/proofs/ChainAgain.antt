-- What is in the grammar of operators with their operands is read, whatever the level.
use Rattle.std.proofs.Common.{◌≡◌, ℕ, Bool, true, false, List, [], ◌∷◌, ◌++◌, length, Option, Some, Ok, refl, sym, ◌∙◌, ap, subst, ◌≤◌, arith, if◌then◌else◌}
use Rattle.std.specs.Prelude.{is_some}
use Rattle.jn_base.specs.declared.tree.Place.{Place}
use Rattle.jn_base.specs.declared.tree.Expr.{Expr}
use Rattle.jn_base.specs.declared.tree.Level.{Level}
use Rattle.jn_base.specs.declared.tree.Op.{Op}
use Rattle.jn_base.specs.declared.tree.Link.{Link}
use Rattle.jn_base.specs.declared.word.Keyword.TheVariants.{False, New, Null, Super, This, True, View}
use Rattle.jn_base.specs.declared.word.Mark.{Mark}
use Rattle.jn_base.specs.declared.word.Mark.TheVariants.{Bang, CloseParen, Minus, OpenParen}
use Rattle.jn_base.specs.declared.word.Word.{Word}
use Rattle.jn_base.specs.declared.word.Word.TheVariants.{Name as Named_, Keyword as Key, Number, Mark as Marked}
use Rattle.jn_base.specs.declared.word.Lexeme.{Lexeme}
use Rattle.jn_base.specs.Words.{lexeme}
use Rattle.jn_base.specs.Parts.{Part, link, chained}
use Rattle.jn_base.specs.GrammarExpr.{IsOperator, or, and, equal, not_equal, less, less_equal, greater, greater_equal, plus, minus, times, over, remainder}
use Rattle.jn_grammar.specs.Begins.{begins, place, lexemes, is_word}
use Rattle.jn_grammar.specs.Answers.{Answer, ◌>>=◌, row}
use Rattle.jn_grammar.specs.ReadExprs.{operator, goes_on, link_by, link_in, chain_in, pair_in}
use Rattle.jn_grammar.proofs.FirstWords.{never}
use Rattle.jn_grammar.proofs.Row.{Row, none, next}
use Rattle.jn_grammar.proofs.ChainSound.{IsLink, one_link}
use Rattle.jn_grammar.proofs.Meets.{words_append, Reads, then_reads, if_true, if_false}
use Rattle.jn_grammar.proofs.TermsAgain.{row_again, read_then}

-- an expression begins with one of these
abbrev pub is_start : Word → Bool
is_start (Number v) = true
is_start (Named_ x) = true
is_start (Key True) = true
is_start (Key False) = true
is_start (Key Null) = true
is_start (Key This) = true
is_start (Key New) = true
is_start (Key Super) = true
is_start (Marked OpenParen) = true
is_start (Marked Bang) = true
is_start (Marked Minus) = true
is_start w = false

-- The words begin so, at p.
pub data Starts (p : Place) : List Part → Type 0 where
  starts : {t : Part} {w : List Part} → is_start t.word ≡ true → t.at ≡ p → Starts p (t ∷ w)

pub starts_append : {p : Place} {w : List Part} → Starts p w → (u : List Part) → Starts p (w ++ u)
starts_append (starts h e) u = starts h e

pub place_is : {p : Place} {w : List Part} → Starts p w → (v : List Lexeme) → place (lexemes w ++ v) ≡ p
place_is (starts h e) v = e

start_not_view : (k : Word) → is_start k ≡ true → is_word (Key View) k ≡ false
start_not_view (Number v) h = refl
start_not_view (Named_ x) h = refl
start_not_view (Key True) h = refl
start_not_view (Key False) h = refl
start_not_view (Key Null) h = refl
start_not_view (Key This) h = refl
start_not_view (Key New) h = refl
start_not_view (Key Super) h = refl
start_not_view (Marked m) h = refl
start_not_view k h = absurd (never h)

start_not_close : (k : Word) → is_start k ≡ true → is_word (Marked CloseParen) k ≡ false
start_not_close (Marked OpenParen) h = refl
start_not_close (Marked Bang) h = refl
start_not_close (Marked Minus) h = refl
start_not_close (Marked m) h = absurd (never h)
start_not_close k h = refl

pub no_view : {p : Place} {w : List Part} → Starts p w → (v : List Lexeme) → begins (Key View) (lexemes w ++ v) ≡ false
no_view (starts {t} h e) v = start_not_view t.word h

pub no_close : {p : Place} {w : List Part} → Starts p w → (v : List Lexeme) → begins (Marked CloseParen) (lexemes w ++ v) ≡ false
no_close (starts {t} h e) v = start_not_close t.word h

pub operator_back : {l : Level} {m : Mark} {o : Op} → IsOperator l m o → operator l (Marked m) ≡ Some o
operator_back or = refl
operator_back and = refl
operator_back equal = refl
operator_back not_equal = refl
operator_back less = refl
operator_back less_equal = refl
operator_back greater = refl
operator_back greater_equal = refl
operator_back plus = refl
operator_back minus = refl
operator_back times = refl
operator_back over = refl
operator_back remainder = refl

-- What has to be known of the operands of a level.
pub record Operands (l : Level) (Is : Place → List Part → Expr → Type 0) (operand : List Lexeme → Answer Expr) (Ends : List Lexeme → Type 0) : Type 0 where
  pub again : (p : Place) (w : List Part) (e : Expr) → Is p w e → (v : List Lexeme) → Ends v → Reads operand w v e
  pub start : (p : Place) (w : List Part) (e : Expr) → Is p w e → Starts p w
  pub stop : (m : Mark) (o : Op) → IsOperator l m o → (p : Place) (v : List Lexeme) → Ends (lexeme (Marked m) p ∷ v)

pub link_again : (l : Level) (Is : Place → List Part → Expr → Type 0) (operand : List Lexeme → Answer Expr) (Ends : List Lexeme → Type 0) → Operands l Is operand Ends
    → (k : ℕ) (w : List Part) (x : Link) → IsLink l Is w x → (v : List Lexeme) → Ends v → Reads (link_in l operand k) w v x
unfolding link_in
link_again l Is operand Ends h k w x (one_link {m} {o} p q {w = u} {e} i j) v a =
    ap (λ (r : Option Op). link_by r operand (lexeme (Marked m) p ∷ (lexemes u ++ v))) (operator_back i)
    ∙ read_then operand (λ e. Ok (link o p e.0, e.1)) u v e _ (h.again q u e j v a) refl

link_head : (l : Level) (Is : Place → List Part → Expr → Type 0) (operand : List Lexeme → Answer Expr) (Ends : List Lexeme → Type 0) → Operands l Is operand Ends
    → (k : ℕ) (w : List Part) (x : Link) → IsLink l Is w x → (v : List Lexeme) → (goes_on l (lexemes w ++ v) ≡ true) × (1 ≤ length w) × Ends (lexemes w ++ v)
link_head l Is operand Ends h k w x (one_link {m} {o} p q {w = u} {e} i j) v = (ap (λ (r : Option Op). is_some r) (operator_back i), omega arith, h.stop m o i p (lexemes u ++ v))

links_end : (l : Level) (Is : Place → List Part → Expr → Type 0) (operand : List Lexeme → Answer Expr) (Ends : List Lexeme → Type 0) → Operands l Is operand Ends
    → {k : ℕ} {w : List Part} {ls : List Link} → Row (λ _. IsLink l Is) k w ls → (v : List Lexeme) → Ends v → Ends (lexemes w ++ v)
links_end l Is operand Ends h none v a = a
links_end l Is operand Ends h (next {w} {v = u} {x} i is) v a = subst Ends (sym (words_append w u v)) (link_head l Is operand Ends h 0 w x i (lexemes u ++ v)).2

pub chain_again : (l : Level) (Is : Place → List Part → Expr → Type 0) (operand : List Lexeme → Answer Expr) (Ends : List Lexeme → Type 0) → Operands l Is operand Ends
    → (p : Place) (u w : List Part) (e : Expr) (ls : List Link) → Is p u e → Row (λ _. IsLink l Is) 1 w ls → (v : List Lexeme) → Ends v → goes_on l v ≡ false
    → Reads (chain_in l operand) (u ++ w) v (chained p l e ls)
unfolding chain_in
chain_again l Is operand Ends h p u w e ls i is v a stop =
    let ts : List Lexeme = lexemes (u ++ w) ++ v in
    then_reads operand (λ e. row (goes_on l) (link_in l operand) 1 e.1 >>= λ ls. Ok (chained (place ts) l e.0 ls.0, ls.1)) u w v e _
    (h.again p u e i (lexemes w ++ v) (links_end l Is operand Ends h is v a))
    (read_then (row (goes_on l) (link_in l operand) 1) (λ ls. Ok (chained (place ts) l e ls.0, ls.1)) w v ls _
    (row_again (λ _. IsLink l Is) (goes_on l) (link_in l operand) Ends (link_head l Is operand Ends h) (link_again l Is operand Ends h) is v stop a)
    (ap (λ (q : Place). Ok (chained q l e ls, v)) (place_is (starts_append (h.start p u e i) w) v)))

pub alone_again : (l : Level) (Is : Place → List Part → Expr → Type 0) (operand : List Lexeme → Answer Expr) (Ends : List Lexeme → Type 0) → Operands l Is operand Ends
    → (p : Place) (w : List Part) (e : Expr) → Is p w e → (v : List Lexeme) → Ends v → goes_on l v ≡ false → Reads (pair_in l operand) w v e
unfolding pair_in
alone_again l Is operand Ends h p w e i v a stop =
    let ts : List Lexeme = lexemes w ++ v in
    read_then operand (λ e. if goes_on l e.1 then (link_in l operand 1 e.1 >>= λ f. Ok (chained (place ts) l e.0 (f.0 ∷ []), f.1)) else Ok (e.0, e.1)) w v e _ (h.again p w e i v a) (if_false (goes_on l v) _ _ stop)

pub two_again : (l : Level) (Is : Place → List Part → Expr → Type 0) (operand : List Lexeme → Answer Expr) (Ends : List Lexeme → Type 0) → Operands l Is operand Ends
    → (p : Place) (u w : List Part) (e : Expr) (x : Link) → Is p u e → IsLink l Is w x → (v : List Lexeme) → Ends v
    → Reads (pair_in l operand) (u ++ w) v (chained p l e (x ∷ []))
unfolding pair_in
two_again l Is operand Ends h p u w e x i j v a =
    let ts : List Lexeme = lexemes (u ++ w) ++ v in
    let g = link_head l Is operand Ends h 1 w x j v in
    then_reads operand (λ e. if goes_on l e.1 then (link_in l operand 1 e.1 >>= λ f. Ok (chained (place ts) l e.0 (f.0 ∷ []), f.1)) else Ok (e.0, e.1)) u w v e _
    (h.again p u e i (lexemes w ++ v) g.2)
    (if_true (goes_on l (lexemes w ++ v)) _ _ g.0
    ∙ read_then (link_in l operand 1) (λ f. Ok (chained (place ts) l e (f.0 ∷ []), f.1)) w v x _ (link_again l Is operand Ends h 1 w x j v a)
    (ap (λ (q : Place). Ok (chained q l e (x ∷ []), v)) (place_is (starts_append (h.start p u e i) w) v)))
