-- What is read of statements and blocks is in the grammar.
use Rattle.std.proofs.Common.{◌≡◌, ℕ, zero, suc, Bool, true, false, List, [], ◌∷◌, ◌++◌, length, Some, None, Ok, Err, refl, sym, ◌∙◌, ap, subst, append_assoc}
use Rattle.jn_base.specs.declared.tree.Place.{Place}
use Rattle.jn_base.specs.declared.tree.Expr.{Expr}
use Rattle.jn_base.specs.declared.tree.Stmt.{Stmt}
use Rattle.jn_base.specs.declared.tree.Stmt.TheVariants as stmt
use Rattle.jn_base.specs.declared.word.Keyword.TheVariants.{Boolean, Else, Final, If, Int, Print, Return, This, While}
use Rattle.jn_base.specs.declared.word.Mark.TheVariants.{CloseBrace, CloseParen, OpenBrace, OpenParen, Semicolon}
use Rattle.jn_base.specs.declared.word.Word.{Word}
use Rattle.jn_base.specs.declared.word.Word.TheVariants.{Name as Named_, Keyword as Key, Text, Mark as Marked}
use Rattle.jn_base.specs.declared.word.Lexeme.{Lexeme}
use Rattle.jn_base.specs.Words.{lexeme}
use Rattle.jn_base.specs.Parts.{Part, key, mark, text, opening}
use Rattle.jn_base.specs.GrammarExpr.{IsExpr}
use Rattle.jn_base.specs.GrammarStmt.{not_final, final, IsStmt, block, choice, turns, leave, give, print, print_text, IsElse, no_else, otherwise, IsStmts, no_stmt, then_stmt}
use Rattle.jn_grammar.specs.Begins.{begins, behind, place}
use Rattle.jn_grammar.specs.Answers.{Answer, ◌>>=◌, here, expect}
use Rattle.jn_grammar.specs.ReadExprs.{level, expr_in}
use Rattle.jn_grammar.specs.ReadStmts.{in_body, tested_in, test_in, return_in, printed_by, printed_in, print_open_in, print_in, block_in, else_in, if_in, while_in, block_stmt_in, same_count, stmt_by, stmt_in, stmts_in, stmts_of}
use Rattle.jn_grammar.proofs.FirstWords.{begins_is}
use Rattle.jn_grammar.proofs.Tools.{Below, Sound, sound_bind, sound_if, sound_map, sound_expect, glue}
use Rattle.jn_grammar.proofs.Counting.{Counted, none, next, counting_sound}
use Rattle.jn_grammar.proofs.ChainSound.{expr_sound, sounds_below}
use Rattle.jn_grammar.proofs.LocalSound.{StmtOf, IsValue, valued, value_sound, local_sound, simple_sound, led_sound}

-- with the count of locals behind them
abbrev pub StmtsOf : ℕ → ℕ → List Part → List Stmt × ℕ → Type 0
StmtsOf d k w x = IsStmts d k w x.0 x.1

abbrev pub ElseOf : ℕ → ℕ → List Part → List Stmt × ℕ → Type 0
ElseOf d k w x = IsElse d k w x.0 x.1

-- What holds of the statements where n more may open.
pub record StmtSounds (s : Bool) (n : ℕ) : Type 0 where
  pub stmts_is : (d k : ℕ) (ts : List Lexeme) → Sound (StmtsOf d k) ts (stmts_in s n (stmts_of s n) k ts)

-- "(" Expr ")"
pub data IsTest (d : ℕ) : List Part → Expr → Type 0 where
  tested : {q : Place} (o c : Place) {w : List Part} {e : Expr} → IsExpr (suc d) q w e → IsTest d (opening d OpenParen o ∷ (w ++ mark CloseParen c ∷ [])) e

tested_sound : (n d : ℕ) (ts : List Lexeme) → begins (Marked OpenParen) ts ≡ true → Sound (IsTest d) ts (tested_in n ts)
unfolding tested_in
tested_sound zero d ts h = tt
tested_sound (suc n) d ts h = sound_bind (IsExpr (suc d) (place (behind ts))) (IsTest d) (behind ts) ts _ _ (expr_sound n (sounds_below n) (suc d) (behind ts))
    (λ e te. sound_expect (IsTest d) (Marked CloseParen) e.1 ts _
    (λ c rest q. record {
      words = opening d OpenParen (place ts) ∷ (te.words ++ mark CloseParen c ∷ []);
      split = begins_is (Marked OpenParen) ts h ∙ ap (λ (v : List Lexeme). lexeme (Marked OpenParen) (place ts) ∷ v) (glue (behind ts) te.words (mark CloseParen c ∷ []) e.1 rest te.split q);
      is = tested (place ts) c te.is;
    }))

test_sound : (n d : ℕ) (ts : List Lexeme) → Sound (IsTest d) ts (test_in n ts)
unfolding test_in
test_sound n d ts = sound_if (IsTest d) ts (begins (Marked OpenParen) ts) (tested_in n ts) (here ts) (tested_sound n d ts) (λ h. tt)

-- "{" {Stmt} "}"
pub data IsBlock (d k : ℕ) : List Part → List Stmt × ℕ → Type 0 where
  braced : {m : ℕ} (o c : Place) {w : List Part} {ss : List Stmt} → IsStmts (suc d) k w ss m → IsBlock d k (opening d OpenBrace o ∷ (w ++ mark CloseBrace c ∷ [])) (ss, m)

pub block_sound : (s : Bool) (n : ℕ) → Below (StmtSounds s) n → (d k : ℕ) (ts : List Lexeme) → Sound (IsBlock d k) ts (block_in s n (stmts_of s n) k ts)
unfolding block_in stmts_of
block_sound s n b d k ts = sound_if (IsBlock d k) ts (begins (Marked OpenBrace) ts) _ (here ts) (opens n b) (λ h. tt)
  where
    opens : (n : ℕ) → Below (StmtSounds s) n → begins (Marked OpenBrace) ts ≡ true → Sound (IsBlock d k) ts (stmts_of s n k ts >>= λ ss. expect (Marked CloseBrace) ss.1 >>= λ shut. Ok (ss.0, shut.1))
    opens zero b h = tt
    opens (suc n) b h = sound_bind (StmtsOf (suc d) k) (IsBlock d k) (behind ts) ts _ _ (b.stmts_is (suc d) k (behind ts))
        (λ ss tss. sound_expect (IsBlock d k) (Marked CloseBrace) ss.1 ts _
        (λ c rest q. record {
          words = opening d OpenBrace (place ts) ∷ (tss.words ++ mark CloseBrace c ∷ []);
          split = begins_is (Marked OpenBrace) ts h ∙ ap (λ (v : List Lexeme). lexeme (Marked OpenBrace) (place ts) ∷ v) (glue (behind ts) tss.words (mark CloseBrace c ∷ []) ss.1 rest tss.split q);
          is = braced (place ts) c tss.is;
        }))

block_of : {d k : ℕ} {w : List Part} {ss : List Stmt × ℕ} → IsBlock d k w ss → IsStmt d k w (stmt.Block ss.0) ss.1
block_of (braced o c i) = block c i

block_stmt_sound : (s : Bool) (n : ℕ) → Below (StmtSounds s) n → (d k : ℕ) (ts : List Lexeme) → Sound (StmtOf d k) ts (block_stmt_in s n (stmts_of s n) k ts)
unfolding block_stmt_in
block_stmt_sound s n b d k ts = sound_bind (IsBlock d k) (StmtOf d k) ts ts _ _ (block_sound s n b d k ts)
    (λ ss tss. record { words = tss.words; split = tss.split; is = block_of tss.is })

else_of : {d k : ℕ} {w : List Part} {ss : List Stmt × ℕ} (p : Place) → IsBlock d k w ss → IsElse d k (key Else p ∷ w) ss.0 ss.1
else_of p (braced o c i) = otherwise c i

else_sound : (s : Bool) (n : ℕ) → Below (StmtSounds s) n → (d k : ℕ) (ts : List Lexeme) → Sound (ElseOf d k) ts (else_in s n (stmts_of s n) k ts)
unfolding else_in
else_sound s n b d k ts = sound_if (ElseOf d k) ts (begins (Key Else) ts) (block_in s n (stmts_of s n) k (behind ts)) (Ok (([], k), ts))
    (λ h. by_answer h (block_in s n (stmts_of s n) k (behind ts)) (block_sound s n b d k (behind ts)))
    (λ h. record { words = []; split = refl; is = no_else })
  where
    by_answer : begins (Key Else) ts ≡ true → (r : Answer (List Stmt × ℕ)) → Sound (IsBlock d k) (behind ts) r → Sound (ElseOf d k) ts r
    by_answer h (Ok x) t = record { words = key Else (place ts) ∷ t.words; split = begins_is (Key Else) ts h ∙ ap (λ (v : List Lexeme). lexeme (Key Else) (place ts) ∷ v) t.split; is = else_of (place ts) t.is }
    by_answer h (Err f) t = tt

-- the pieces in a row are those of the rule
pub around : (v w z : List Part) (c b e : Part) → (v ++ c ∷ []) ++ (b ∷ ((w ++ e ∷ []) ++ z)) ≡ v ++ (c ∷ b ∷ (w ++ (e ∷ z)))
around v w z c b e = append_assoc v (c ∷ []) (b ∷ ((w ++ e ∷ []) ++ z)) ∙ ap (λ (i : List Part). v ++ (c ∷ b ∷ i)) (append_assoc w (e ∷ []) z)

if_of : {d k m : ℕ} {v w u : List Part} {e : Expr} {ss : List Stmt × ℕ} {rs : List Stmt} (p : Place) → IsTest d v e → IsBlock d k w ss → IsElse d ss.1 u rs m
    → IsStmt d k (key If p ∷ (v ++ (w ++ u))) (stmt.If e ss.0 rs p) m
if_of {d} {k} {m} {u = u} {rs = rs} p (tested o c {w = v} {e} i) (braced b f {w = w} {ss} j) z =
    subst (λ (y : List Part). IsStmt d k (key If p ∷ opening d OpenParen o ∷ y) (stmt.If e ss rs p) m) (sym (around v w u (mark CloseParen c) (opening d OpenBrace b) (mark CloseBrace f))) (choice c b f i j z)

while_of : {d k : ℕ} {v w : List Part} {e : Expr} {ss : List Stmt × ℕ} (p : Place) → IsTest d v e → IsBlock d k w ss → IsStmt d k (key While p ∷ (v ++ w)) (stmt.While e ss.0 p) ss.1
while_of {d} {k} p (tested o c {w = v} {e} i) (braced {m} b f {w = w} {ss} j) =
    subst (λ (y : List Part). IsStmt d k (key While p ∷ opening d OpenParen o ∷ y) (stmt.While e ss p) m) (sym (append_assoc v (mark CloseParen c ∷ []) (opening d OpenBrace b ∷ (w ++ mark CloseBrace f ∷ [])))) (turns c b f i j)

if_sound : (s : Bool) (n : ℕ) → Below (StmtSounds s) n → (d k : ℕ) (p : Place) (ts : List Lexeme) → Sound (StmtOf d k) (lexeme (Key If) p ∷ ts) (if_in s n (stmts_of s n) k p ts)
unfolding if_in
if_sound s n b d k p ts =
    sound_bind (IsTest d) (StmtOf d k) ts (lexeme (Key If) p ∷ ts) _ _ (test_sound n d ts)
    (λ e te. sound_bind (IsBlock d k) (StmtOf d k) e.1 (lexeme (Key If) p ∷ ts) _ _ (block_sound s n b d k e.1)
    (λ ss tss. sound_bind (ElseOf d ss.0.1) (StmtOf d k) ss.1 (lexeme (Key If) p ∷ ts) _ _ (else_sound s n b d ss.0.1 ss.1)
    (λ rs trs. record {
      words = key If p ∷ (te.words ++ (tss.words ++ trs.words));
      split = ap (λ (v : List Lexeme). lexeme (Key If) p ∷ v) (glue ts te.words (tss.words ++ trs.words) e.1 rs.1 te.split (glue e.1 tss.words trs.words ss.1 rs.1 tss.split trs.split));
      is = if_of p te.is tss.is trs.is;
    })))

while_sound : (s : Bool) (n : ℕ) → Below (StmtSounds s) n → (d k : ℕ) (p : Place) (ts : List Lexeme) → Sound (StmtOf d k) (lexeme (Key While) p ∷ ts) (while_in s n (stmts_of s n) k p ts)
unfolding while_in
while_sound s n b d k p ts =
    sound_bind (IsTest d) (StmtOf d k) ts (lexeme (Key While) p ∷ ts) _ _ (test_sound n d ts)
    (λ e te. sound_bind (IsBlock d k) (StmtOf d k) e.1 (lexeme (Key While) p ∷ ts) _ _ (block_sound s n b d k e.1)
    (λ ss tss. record {
      words = key While p ∷ (te.words ++ tss.words);
      split = ap (λ (v : List Lexeme). lexeme (Key While) p ∷ v) (glue ts te.words tss.words e.1 ss.1 te.split tss.split);
      is = while_of p te.is tss.is;
    }))

-- a statement that declares no local
pub data IsSame (d : ℕ) : List Part → Stmt → Type 0 where
  same : {w : List Part} {x : Stmt} → ((k : ℕ) → IsStmt d k w x k) → IsSame d w x

same_sound : (d k : ℕ) (us : List Lexeme) (s : Bool) (n : ℕ) (r : Answer Stmt) → Sound (IsSame d) us r → Sound (StmtOf d k) us (same_count s n (stmts_of s n) k r)
same_sound d k us s n r h = sound_bind (IsSame d) (StmtOf d k) us us r _ h (λ x tx. record { words = tx.words; split = tx.split; is = of_same tx.is })
  where
    of_same : {w : List Part} {x : Stmt} → IsSame d w x → IsStmt d k w x k
    of_same (same f) = f k

give_of : {d : ℕ} {w : List Part} {e : Expr} (p : Place) → IsValue d w e → IsSame d (key Return p ∷ w) (stmt.Return (Some e) p)
give_of p (valued s i) = same (λ k. give s i)

return_sound : (n d : ℕ) (p : Place) (ts : List Lexeme) → Sound (IsSame d) (lexeme (Key Return) p ∷ ts) (return_in n p ts)
unfolding return_in
return_sound n d p ts = sound_if (IsSame d) (lexeme (Key Return) p ∷ ts) (begins (Marked Semicolon) ts) (Ok (stmt.Return None p, behind ts)) _
    (λ h. record { words = key Return p ∷ mark Semicolon (place ts) ∷ []; split = ap (λ (v : List Lexeme). lexeme (Key Return) p ∷ v) (begins_is (Marked Semicolon) ts h); is = same (λ k. leave) })
    (λ h. sound_bind (IsValue d) (IsSame d) ts (lexeme (Key Return) p ∷ ts) _ _ (value_sound n d ts)
    (λ e te. record { words = key Return p ∷ te.words; split = ap (λ (v : List Lexeme). lexeme (Key Return) p ∷ v) te.split; is = give_of p te.is }))

-- what is printed
pub data IsShown (d : ℕ) (p : Place) : List Part → Stmt → Type 0 where
  shown_expr : {q : Place} {w : List Part} {e : Expr} → IsExpr d q w e → IsShown d p w (stmt.Print e p)
  shown_text : {m : ℕ} {q : Place} → IsShown d p (text m q ∷ []) (stmt.PrintText m p)

shown_value : (n d : ℕ) (p : Place) (ts : List Lexeme) → Sound (IsShown d p) ts (expr_in (level n) ts >>= λ e. Ok (stmt.Print e.0 p, e.1))
shown_value n d p ts = sound_bind (IsExpr d (place ts)) (IsShown d p) ts ts _ _ (expr_sound n (sounds_below n) d ts) (λ e te. record { words = te.words; split = te.split; is = shown_expr te.is })

printed_sound : (n d : ℕ) (p : Place) (ts : List Lexeme) → Sound (IsShown d p) ts (printed_in n p ts)
unfolding printed_in printed_by
printed_sound n d p [] = tt
printed_sound n d p (t ∷ ts) = by_word t.word
  where
    by_word : (w : Word) → Sound (IsShown d p) (lexeme w t.at ∷ ts) (printed_by n p w (lexeme w t.at) ts)
    by_word (Text m) = record { words = text m t.at ∷ []; split = refl; is = shown_text }
    by_word w = shown_value n d p (lexeme w t.at ∷ ts)

print_of : {d : ℕ} {w : List Part} {x : Stmt} (p o c s : Place) → IsShown (suc d) p w x → IsSame d (key Print p ∷ opening d OpenParen o ∷ (w ++ mark CloseParen c ∷ mark Semicolon s ∷ [])) x
print_of p o c s (shown_expr i) = same (λ k. print c s i)
print_of p o c s shown_text = same (λ k. print_text)

print_open_sound : (n d : ℕ) (p : Place) (ts : List Lexeme) → begins (Marked OpenParen) ts ≡ true → Sound (IsSame d) (lexeme (Key Print) p ∷ ts) (print_open_in n p ts)
unfolding print_open_in
print_open_sound zero d p ts h = tt
print_open_sound (suc n) d p ts h =
    let o : Place = place ts in
    sound_bind (IsShown (suc d) p) (IsSame d) (behind ts) (lexeme (Key Print) p ∷ ts) _ _ (printed_sound n (suc d) p (behind ts))
    (λ x tx. sound_expect (IsSame d) (Marked CloseParen) x.1 (lexeme (Key Print) p ∷ ts) _
    (λ c rest q. sound_expect (IsSame d) (Marked Semicolon) rest (lexeme (Key Print) p ∷ ts) _
    (λ s last r. record {
      words = key Print p ∷ opening d OpenParen o ∷ (tx.words ++ mark CloseParen c ∷ mark Semicolon s ∷ []);
      split = ap (λ (v : List Lexeme). lexeme (Key Print) p ∷ v) (begins_is (Marked OpenParen) ts h ∙ ap (λ (v : List Lexeme). lexeme (Marked OpenParen) o ∷ v)
          (glue (behind ts) tx.words (mark CloseParen c ∷ mark Semicolon s ∷ []) x.1 last tx.split (q ∙ ap (λ (v : List Lexeme). lexeme (Marked CloseParen) c ∷ v) r)));
      is = print_of p o c s tx.is;
    })))

print_sound : (n d : ℕ) (p : Place) (ts : List Lexeme) → Sound (IsSame d) (lexeme (Key Print) p ∷ ts) (print_in n p ts)
unfolding print_in
print_sound n d p ts = sound_if (IsSame d) (lexeme (Key Print) p ∷ ts) (begins (Marked OpenParen) ts) (print_open_in n p ts) (here ts) (print_open_sound n d p ts) (λ h. tt)

pub stmt_sound : (s : Bool) (n : ℕ) → Below (StmtSounds s) n → (d k : ℕ) (ts : List Lexeme) → Sound (StmtOf d k) ts (stmt_in s n (stmts_of s n) k ts)
unfolding stmt_in stmt_by
stmt_sound s n b d k [] = tt
stmt_sound s n b d k (t ∷ ts) = by_word t.word
  where
    by_word : (w : Word) → Sound (StmtOf d k) (lexeme w t.at ∷ ts) (stmt_by s n (stmts_of s n) k w (lexeme w t.at) ts)
    by_word (Marked OpenBrace) = block_stmt_sound s n b d k (lexeme (Marked OpenBrace) t.at ∷ ts)
    by_word (Key Final) = local_sound s n d k true (key Final t.at ∷ []) final ts (lexeme (Key Final) t.at ∷ ts) refl
    by_word (Key Int) = local_sound s n d k false [] not_final (lexeme (Key Int) t.at ∷ ts) (lexeme (Key Int) t.at ∷ ts) refl
    by_word (Key Boolean) = local_sound s n d k false [] not_final (lexeme (Key Boolean) t.at ∷ ts) (lexeme (Key Boolean) t.at ∷ ts) refl
    by_word (Key If) = if_sound s n b d k t.at ts
    by_word (Key While) = while_sound s n b d k t.at ts
    by_word (Key Return) = same_sound d k (lexeme (Key Return) t.at ∷ ts) s n (return_in n t.at ts) (return_sound n d t.at ts)
    by_word (Key Print) = same_sound d k (lexeme (Key Print) t.at ∷ ts) s n (print_in n t.at ts) (print_sound n d t.at ts)
    by_word (Key This) = led_sound s n d k (lexeme (Key This) t.at ∷ ts)
    by_word (Named_ x) = led_sound s n d k (lexeme (Named_ x) t.at ∷ ts)
    by_word (Key w) = simple_sound s n d k (lexeme (Key w) t.at ∷ ts)
    by_word (Marked w) = simple_sound s n d k (lexeme (Marked w) t.at ∷ ts)
    by_word w = simple_sound s n d k (lexeme w t.at ∷ ts)

stmts_are : {d k : ℕ} {w : List Part} {ss : List Stmt × ℕ} → Counted (StmtOf d) k w ss → IsStmts d k w ss.0 ss.1
stmts_are none = no_stmt
stmts_are (next i is) = then_stmt i (stmts_are is)

pub stmts_sound : (s : Bool) (n : ℕ) → Below (StmtSounds s) n → (d k : ℕ) (ts : List Lexeme) → Sound (StmtsOf d k) ts (stmts_in s n (stmts_of s n) k ts)
stmts_sound s n b d k ts = sound_map (Counted (StmtOf d) k) (StmtsOf d k) ts _ (λ w x. stmts_are)
    (counting_sound (StmtOf d) in_body (stmt_in s n (stmts_of s n)) (λ m us h. stmt_sound s n b d m us) (length ts) k ts)

pub stmt_sounds : (s : Bool) (n : ℕ) → StmtSounds s n
stmt_sounds s zero = record { stmts_is = stmts_sound s zero tt }
stmt_sounds s (suc n) = record { stmts_is = stmts_sound s (suc n) (stmt_sounds s n) }

pub stmt_sounds_below : (s : Bool) (n : ℕ) → Below (StmtSounds s) n
stmt_sounds_below s zero = tt
stmt_sounds_below s (suc n) = stmt_sounds s n
