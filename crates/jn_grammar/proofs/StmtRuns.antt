-- Reading statements and blocks is what the machine does with their symbols.
use Rattle.std.proofs.Common.{◌≡◌, ℕ, zero, suc, ◌≤◌, ◌<◌, Bool, true, false, List, [], ◌∷◌, ◌++◌, length, Ok, refl, ap, arith, if◌then◌else◌}
use Rattle.std.specs.Prelude.{not}
use Rattle.jn_base.specs.declared.tree.Place.{Place}
use Rattle.jn_base.specs.declared.tree.Stmt.{Stmt}
use Rattle.jn_base.specs.declared.tree.Stmt.TheVariants as stmt
use Rattle.jn_base.specs.declared.tree.Level.TheVariants as level_
use Rattle.jn_base.specs.declared.refusal.Limit.TheVariants.{Nesting}
use Rattle.jn_base.specs.declared.word.Keyword.TheVariants.{Boolean, Else, False, Final, If, Int, New, Null, Print, Return, Super, This, True, While}
use Rattle.jn_base.specs.declared.word.Mark.TheVariants.{Bang, CloseBrace, CloseParen, Minus, OpenBrace, OpenParen, Semicolon}
use Rattle.jn_base.specs.declared.word.Word.{Word}
use Rattle.jn_base.specs.declared.word.Word.TheVariants.{Name as Named_, Keyword as Key, Text, Mark as Marked}
use Rattle.jn_base.specs.declared.word.Lexeme.{Lexeme}
use Rattle.jn_base.specs.Words.{lexeme}
use Rattle.jn_base.specs.Parts.{Part}
use Rattle.jn_base.specs.GrammarStmt.{IsStmt}
use Rattle.jn_grammar.specs.declared.fault.Fault.TheVariants.{Syntax, Passed}
use Rattle.jn_grammar.specs.Begins.{begins, behind, is_word}
use Rattle.jn_grammar.specs.Answers.{Answer, ◌>>=◌, expect}
use Rattle.jn_grammar.specs.ReadExprs.{level, expr_in}
use Rattle.jn_grammar.specs.ReadStmts.{in_body, tested_in, test_in, return_in, printed_by, printed_in, print_open_in, print_in, block_in, else_in, if_in, while_in, block_stmt_in, same_count, stmt_by, stmt_in, stmts_in, stmts_of}
use Rattle.jn_grammar.specs.Expected.{Symbol, Expects, Shuts, Expr, Body, Stmts, MayElse, Block, Test, Returned, Printed, TextOrExpr, behind_block, opened, Going, Fails, run}
use Rattle.jn_grammar.proofs.FirstWords.{never, word_is}
use Rattle.jn_grammar.proofs.Tools.{Below, strictly}
use Rattle.jn_grammar.proofs.StmtSound.{stmt_sound, stmt_sounds_below}
use Rattle.jn_grammar.proofs.LocalSound.{StmtOf}
use Rattle.jn_grammar.proofs.StmtAgain.{stmt_starts, by_head}
use Rattle.jn_grammar.proofs.Machine.{Comes, Does, run_fails, comes_then, comes_if, comes_both, from, opens_or_refuses, expects, shuts}
use Rattle.jn_grammar.proofs.LevelsRuns.{expr_runs, runs_below}
use Rattle.jn_grammar.proofs.Counting.{counting_runs}
use Rattle.jn_grammar.proofs.Growing.{holds_at, counting_ends}
use Rattle.jn_grammar.proofs.LocalRuns.{body, Goes, value_runs, local_runs, simple_runs, name_runs, this_runs}

-- What holds of the statements where n more may open.
pub record StmtRuns (s : Bool) (n : ℕ) : Type 0 where
  pub stmts_does : (k : ℕ) (bs : List Bool) (ts : List Lexeme) (below : List Symbol)
      → Comes (run s ts (Going n (Stmts (body k bs) ∷ below))) (λ y. run s y.1 (Going n (Stmts (body y.0.1 bs) ∷ below))) (stmts_in s n (stmts_of s n) k ts)

-- ---- the end of a block

stmt_long : (d k : ℕ) (w : List Part) (x : Stmt × ℕ) → IsStmt d k w x.0 x.1 → 1 ≤ length w
stmt_long d k w x i = (by_head (stmt_starts i) []).1

pub stmt_less : (s : Bool) (n k : ℕ) (ts : List Lexeme) (x : (Stmt × ℕ) × List Lexeme) → stmt_in s n (stmts_of s n) k ts ≡ Ok x → length x.1 < length ts
stmt_less s n k ts x = strictly (StmtOf 0 k) ts _ x (λ w. stmt_long 0 k w x.0) (stmt_sound s n (stmt_sounds_below s n) 0 k ts)

stmts_end : (s : Bool) (n k : ℕ) (ts : List Lexeme) (x : (List Stmt × ℕ) × List Lexeme) → stmts_in s n (stmts_of s n) k ts ≡ Ok x → in_body x.1 ≡ false
stmts_end s n k ts x e = let fits : length ts ≤ length ts = omega arith in
    holds_at (λ xs. in_body xs.1 ≡ false) (stmts_in s n (stmts_of s n) k ts) x (counting_ends in_body (stmt_in s n (stmts_of s n)) (λ k ts x h. stmt_less s n k ts x) refl (length ts) k ts fits) e

block_shuts : (s : Bool) (n k : ℕ) (bs : List Bool) (ts : List Lexeme) (below : List Symbol) → in_body ts ≡ false
    → Comes (run s ts (Going n (Stmts (body k bs) ∷ below))) (λ y. run s y.1 (Going (suc n) (behind_block k bs ++ below))) (expect (Marked CloseBrace) ts)
block_shuts s n k bs [] below h = record { eq = refl }
block_shuts s n k bs (t ∷ ts) below h = by_word t.word h
  where
    by_word : (w : Word) → not (is_word (Marked CloseBrace) w) ≡ false
        → Comes (run s (lexeme w t.at ∷ ts) (Going n (Stmts (body k bs) ∷ below))) (λ y. run s y.1 (Going (suc n) (behind_block k bs ++ below))) (expect (Marked CloseBrace) (lexeme w t.at ∷ ts))
    by_word (Marked CloseBrace) h = record { eq = refl }
    by_word (Marked m) h = cc
    by_word w h = cc

-- statements and a "}", from the "{" on
pub opened_runs : (s : Bool) (n : ℕ) → Below (StmtRuns s) n → (k : ℕ) (bs : List Bool) (ts : List Lexeme) (below : List Symbol)
    → Comes (run s (behind ts) (opened n (Stmts (body k bs) ∷ below) (length ts))) (λ y. run s y.1 (Going n (behind_block y.0.1 bs ++ below))) (stmts_of s n k ts >>= λ ss. expect (Marked CloseBrace) ss.1 >>= λ shut. Ok (ss.0, shut.1))
unfolding stmts_of
opened_runs s zero b k bs ts below = record { eq = run_fails s (behind ts) (Passed Nesting (length ts)) }
opened_runs s (suc n) b k bs ts below = comes_then (b.stmts_does k bs (behind ts) below)
    (λ ss is. comes_then (block_shuts s n ss.0.1 bs ss.1 below (stmts_end s n k (behind ts) ss is)) (λ _ _. record { eq = refl }))

-- a block behind its symbol
pub block_runs : (s : Bool) (n : ℕ) → Below (StmtRuns s) n → (x : Symbol) (k : ℕ) (bs : List Bool) (ts : List Lexeme) (below : List Symbol)
    → run s ts (Going n (x ∷ below)) ≡ (if begins (Marked OpenBrace) ts then run s (behind ts) (opened n (Stmts (body k bs) ∷ below) (length ts)) else Fails (Syntax (length ts)))
    → Comes (run s ts (Going n (x ∷ below))) (λ y. run s y.1 (Going n (behind_block y.0.1 bs ++ below))) (block_in s n (stmts_of s n) k ts)
unfolding block_in
block_runs s n b x k bs ts below e = comes_both (begins (Marked OpenBrace) ts) e (λ h. opened_runs s n b k bs ts below) (λ h. record { eq = refl })

inner_block_runs : (s : Bool) (n : ℕ) → Below (StmtRuns s) n → (may_else : Bool) (k : ℕ) (bs : List Bool) (ts : List Lexeme) (below : List Symbol)
    → Comes (run s ts (Going n (Block may_else (body k bs) ∷ below))) (λ y. run s y.1 (Going n (behind_block y.0.1 (may_else ∷ bs) ++ below))) (block_in s n (stmts_of s n) k ts)
inner_block_runs s n b may_else k bs ts below = block_runs s n b (Block may_else (body k bs)) k (may_else ∷ bs) ts below
    (opens_or_refuses s (Marked OpenBrace) (Stmts (body k (may_else ∷ bs)) ∷ []) below n ts (Block may_else (body k bs)) (λ k. refl))

-- ---- "else"

no_true : true ≡ false → ⊥
no_true e = cc

no_else : (s : Bool) (n : ℕ) (b : Body) (ts : List Lexeme) (below : List Symbol) → begins (Key Else) ts ≡ false → run s ts (Going n (MayElse b ∷ below)) ≡ run s ts (Going n (Stmts b ∷ below))
no_else s n b [] below h = refl
no_else s n b (t ∷ ts) below h = by_word t.word h
  where
    by_word : (w : Word) → is_word (Key Else) w ≡ false → run s (lexeme w t.at ∷ ts) (Going n (MayElse b ∷ below)) ≡ run s (lexeme w t.at ∷ ts) (Going n (Stmts b ∷ below))
    by_word (Key Else) h = absurd (no_true h)
    by_word (Key w) h = refl
    by_word w h = refl

takes_else : (s : Bool) (n : ℕ) (b : Body) (ts : List Lexeme) (below : List Symbol) → begins (Key Else) ts ≡ true → run s ts (Going n (MayElse b ∷ below)) ≡ run s (behind ts) (Going n (Block false b ∷ below))
takes_else s n b [] below h = cc
takes_else s n b (t ∷ ts) below h = ap (λ w. run s (lexeme w t.at ∷ ts) (Going n (MayElse b ∷ below))) (word_is (Key Else) t.word h)

else_runs : (s : Bool) (n : ℕ) → Below (StmtRuns s) n → (k : ℕ) (bs : List Bool) (ts : List Lexeme) (below : List Symbol)
    → Comes (run s ts (Going n (MayElse (body k bs) ∷ below))) (λ y. run s y.1 (Going n (Stmts (body y.0.1 bs) ∷ below))) (else_in s n (stmts_of s n) k ts)
unfolding else_in
else_runs s n b k bs ts below = comes_if (begins (Key Else) ts)
    (λ h. from (takes_else s n (body k bs) ts below h) (inner_block_runs s n b false k bs (behind ts) below))
    (λ h. record { eq = no_else s n (body k bs) ts below h })

-- ---- statements with a keyword

tested_runs : (s : Bool) (n : ℕ) (ts : List Lexeme) (below : List Symbol)
    → Comes (run s (behind ts) (opened n (Expr level_.Or ∷ Shuts (Marked CloseParen) ∷ below) (length ts))) (λ y. run s y.1 (Going n below)) (tested_in n ts)
unfolding tested_in
tested_runs s zero ts below = record { eq = run_fails s (behind ts) (Passed Nesting (length ts)) }
tested_runs s (suc n) ts below = comes_then (expr_runs s n (runs_below s n) (behind ts) (Shuts (Marked CloseParen) ∷ below)) (λ e _. comes_then (shuts s (Marked CloseParen) n e.1 below) (λ _ _. record { eq = refl }))

test_runs : (s : Bool) (n : ℕ) (ts : List Lexeme) (below : List Symbol) → Does s Test n ts below (test_in n ts)
unfolding test_in
test_runs s n ts below = comes_both (begins (Marked OpenParen) ts) (opens_or_refuses s (Marked OpenParen) (Expr level_.Or ∷ Shuts (Marked CloseParen) ∷ []) below n ts Test (λ k. refl))
    (λ h. tested_runs s n ts below) (λ h. record { eq = refl })

if_runs : (s : Bool) (n : ℕ) → Below (StmtRuns s) n → (k : ℕ) (bs : List Bool) (p : Place) (ts : List Lexeme) (below : List Symbol) → Goes s n bs (Test ∷ Block true (body k bs) ∷ below) ts below (if_in s n (stmts_of s n) k p ts)
unfolding if_in
if_runs s n b k bs p ts below = comes_then (test_runs s n ts (Block true (body k bs) ∷ below))
    (λ e _. comes_then (inner_block_runs s n b true k bs e.1 below)
    (λ ss _. comes_then (else_runs s n b ss.0.1 bs ss.1 below) (λ _ _. record { eq = refl })))

while_runs : (s : Bool) (n : ℕ) → Below (StmtRuns s) n → (k : ℕ) (bs : List Bool) (p : Place) (ts : List Lexeme) (below : List Symbol) → Goes s n bs (Test ∷ Block false (body k bs) ∷ below) ts below (while_in s n (stmts_of s n) k p ts)
unfolding while_in
while_runs s n b k bs p ts below = comes_then (test_runs s n ts (Block false (body k bs) ∷ below))
    (λ e _. comes_then (inner_block_runs s n b false k bs e.1 below) (λ _ _. record { eq = refl }))

block_stmt_runs : (s : Bool) (n : ℕ) → Below (StmtRuns s) n → (k : ℕ) (bs : List Bool) (p : Place) (ts : List Lexeme) (below : List Symbol)
    → Goes s n bs (Stmts (body k bs) ∷ below) (lexeme (Marked OpenBrace) p ∷ ts) below (block_stmt_in s n (stmts_of s n) k (lexeme (Marked OpenBrace) p ∷ ts))
unfolding block_stmt_in block_in
block_stmt_runs s n b k bs p ts below = comes_then (opened_runs s n b k (false ∷ bs) (lexeme (Marked OpenBrace) p ∷ ts) below) (λ _ _. record { eq = refl })

-- "return" and what is given
returned_is : (s : Bool) (n : ℕ) (ts : List Lexeme) (below : List Symbol)
    → run s ts (Going n (Returned ∷ below)) ≡ (if begins (Marked Semicolon) ts then run s (behind ts) (Going n below) else run s ts (Going n (Expr level_.Or ∷ Expects (Marked Semicolon) ∷ below)))
returned_is s n [] below = refl
returned_is s n (t ∷ ts) below = by_word t.word
  where
    by_word : (w : Word) → run s (lexeme w t.at ∷ ts) (Going n (Returned ∷ below))
        ≡ (if is_word (Marked Semicolon) w then run s ts (Going n below) else run s (lexeme w t.at ∷ ts) (Going n (Expr level_.Or ∷ Expects (Marked Semicolon) ∷ below)))
    by_word (Marked Semicolon) = refl
    by_word (Marked Bang) = refl
    by_word (Marked Minus) = refl
    by_word (Marked OpenParen) = refl
    by_word (Marked m) = refl
    by_word (Key True) = refl
    by_word (Key False) = refl
    by_word (Key Null) = refl
    by_word (Key This) = refl
    by_word (Key New) = refl
    by_word (Key Super) = refl
    by_word (Key w) = refl
    by_word w = refl

return_runs : (s : Bool) (n : ℕ) (p : Place) (ts : List Lexeme) (below : List Symbol) → Does s Returned n ts below (return_in n p ts)
unfolding return_in
return_runs s n p ts below = comes_both (begins (Marked Semicolon) ts) (returned_is s n ts below) (λ h. record { eq = refl })
    (λ h. comes_then (value_runs s n ts below) (λ _ _. record { eq = refl }))

-- what is printed
shown_is : (s : Bool) (n : ℕ) (p : Place) (ts : List Lexeme) (below : List Symbol) → Does s TextOrExpr n ts below (printed_in n p ts)
unfolding printed_in printed_by
shown_is s n p [] below = record { eq = refl }
shown_is s n p (t ∷ ts) below = by_word t.word
  where
    as_expr : (u : Lexeme) → Comes (run s (u ∷ ts) (Going n (Expr level_.Or ∷ below))) (λ y. run s y.1 (Going n below)) (expr_in (level n) (u ∷ ts) >>= λ e. Ok (stmt.Print e.0 p, e.1))
    as_expr u = comes_then (expr_runs s n (runs_below s n) (u ∷ ts) below) (λ _ _. record { eq = refl })

    by_word : (w : Word) → Comes (run s (lexeme w t.at ∷ ts) (Going n (TextOrExpr ∷ below))) (λ y. run s y.1 (Going n below)) (printed_by n p w (lexeme w t.at) ts)
    by_word (Text i) = record { eq = refl }
    by_word (Marked Bang) = record { eq = (as_expr (lexeme (Marked Bang) t.at)).eq }
    by_word (Marked Minus) = record { eq = (as_expr (lexeme (Marked Minus) t.at)).eq }
    by_word (Marked OpenParen) = record { eq = (as_expr (lexeme (Marked OpenParen) t.at)).eq }
    by_word (Marked m) = record { eq = (as_expr (lexeme (Marked m) t.at)).eq }
    by_word (Key True) = record { eq = (as_expr (lexeme (Key True) t.at)).eq }
    by_word (Key False) = record { eq = (as_expr (lexeme (Key False) t.at)).eq }
    by_word (Key Null) = record { eq = (as_expr (lexeme (Key Null) t.at)).eq }
    by_word (Key This) = record { eq = (as_expr (lexeme (Key This) t.at)).eq }
    by_word (Key New) = record { eq = (as_expr (lexeme (Key New) t.at)).eq }
    by_word (Key Super) = record { eq = (as_expr (lexeme (Key Super) t.at)).eq }
    by_word (Key w) = record { eq = (as_expr (lexeme (Key w) t.at)).eq }
    by_word w = record { eq = (as_expr (lexeme w t.at)).eq }

print_open_runs : (s : Bool) (n : ℕ) (p : Place) (ts : List Lexeme) (below : List Symbol)
    → Comes (run s (behind ts) (opened n (TextOrExpr ∷ Shuts (Marked CloseParen) ∷ Expects (Marked Semicolon) ∷ below) (length ts))) (λ y. run s y.1 (Going n below)) (print_open_in n p ts)
unfolding print_open_in
print_open_runs s zero p ts below = record { eq = run_fails s (behind ts) (Passed Nesting (length ts)) }
print_open_runs s (suc n) p ts below = comes_then (shown_is s n p (behind ts) (Shuts (Marked CloseParen) ∷ Expects (Marked Semicolon) ∷ below))
    (λ x _. comes_then (shuts s (Marked CloseParen) n x.1 (Expects (Marked Semicolon) ∷ below))
    (λ c _. comes_then (expects s (Marked Semicolon) (suc n) c.1 below) (λ _ _. record { eq = refl })))

print_runs : (s : Bool) (n : ℕ) (p : Place) (ts : List Lexeme) (below : List Symbol) → Does s Printed n ts below (print_in n p ts)
unfolding print_in
print_runs s n p ts below = comes_both (begins (Marked OpenParen) ts) (opens_or_refuses s (Marked OpenParen) (TextOrExpr ∷ Shuts (Marked CloseParen) ∷ Expects (Marked Semicolon) ∷ []) below n ts Printed (λ k. refl))
    (λ h. print_open_runs s n p ts below) (λ h. record { eq = refl })

same_runs : (s : Bool) (n k : ℕ) (bs : List Bool) (at : List Symbol) (ts : List Lexeme) (below : List Symbol) (r : Answer Stmt)
    → Comes (run s ts (Going n at)) (λ y. run s y.1 (Going n (Stmts (body k bs) ∷ below))) r → Goes s n bs at ts below (same_count s n (stmts_of s n) k r)
same_runs s n k bs at ts below r c = comes_then c (λ _ _. record { eq = refl })

-- ---- all statements

pub stmt_runs : (s : Bool) (n : ℕ) → Below (StmtRuns s) n → (k : ℕ) (bs : List Bool) (ts : List Lexeme) (below : List Symbol) → in_body ts ≡ true → Goes s n bs (Stmts (body k bs) ∷ below) ts below (stmt_in s n (stmts_of s n) k ts)
unfolding stmt_in stmt_by
stmt_runs s n b k bs [] below h = absurd (never h)
stmt_runs s n b k bs (t ∷ ts) below h = by_word t.word h
  where
    by_word : (w : Word) → not (is_word (Marked CloseBrace) w) ≡ true → Goes s n bs (Stmts (body k bs) ∷ below) (lexeme w t.at ∷ ts) below (stmt_by s n (stmts_of s n) k w (lexeme w t.at) ts)
    by_word (Marked CloseBrace) h = absurd (never h)
    by_word (Marked OpenBrace) h = block_stmt_runs s n b k bs t.at ts below
    by_word (Marked OpenParen) h = record { eq = (simple_runs s n k bs (lexeme (Marked OpenParen) t.at ∷ ts) below).eq }
    by_word (Marked m) h = record { eq = (simple_runs s n k bs (lexeme (Marked m) t.at ∷ ts) below).eq }
    by_word (Key Final) h = local_runs s n k bs true ts below
    by_word (Key Int) h = record { eq = (local_runs s n k bs false (lexeme (Key Int) t.at ∷ ts) below).eq }
    by_word (Key Boolean) h = record { eq = (local_runs s n k bs false (lexeme (Key Boolean) t.at ∷ ts) below).eq }
    by_word (Key If) h = if_runs s n b k bs t.at ts below
    by_word (Key While) h = while_runs s n b k bs t.at ts below
    by_word (Key Return) h = same_runs s n k bs (Returned ∷ Stmts (body k bs) ∷ below) ts below (return_in n t.at ts) (return_runs s n t.at ts (Stmts (body k bs) ∷ below))
    by_word (Key Print) h = same_runs s n k bs (Printed ∷ Stmts (body k bs) ∷ below) ts below (print_in n t.at ts) (print_runs s n t.at ts (Stmts (body k bs) ∷ below))
    by_word (Key This) h = this_runs s n k bs t.at ts below
    by_word (Named_ x) h = name_runs s n k bs x t.at ts below
    by_word (Key True) h = record { eq = (simple_runs s n k bs (lexeme (Key True) t.at ∷ ts) below).eq }
    by_word (Key False) h = record { eq = (simple_runs s n k bs (lexeme (Key False) t.at ∷ ts) below).eq }
    by_word (Key Null) h = record { eq = (simple_runs s n k bs (lexeme (Key Null) t.at ∷ ts) below).eq }
    by_word (Key New) h = record { eq = (simple_runs s n k bs (lexeme (Key New) t.at ∷ ts) below).eq }
    by_word (Key Super) h = record { eq = (simple_runs s n k bs (lexeme (Key Super) t.at ∷ ts) below).eq }
    by_word (Key w) h = record { eq = (simple_runs s n k bs (lexeme (Key w) t.at ∷ ts) below).eq }
    by_word w h = record { eq = (simple_runs s n k bs (lexeme w t.at ∷ ts) below).eq }

stmts_run : (s : Bool) (n : ℕ) → Below (StmtRuns s) n → (k : ℕ) (bs : List Bool) (ts : List Lexeme) (below : List Symbol)
    → Comes (run s ts (Going n (Stmts (body k bs) ∷ below))) (λ y. run s y.1 (Going n (Stmts (body y.0.1 bs) ∷ below))) (stmts_in s n (stmts_of s n) k ts)
stmts_run s n b k bs ts below = let fits : length ts ≤ length ts = omega arith in
    counting_runs s n in_body (stmt_in s n (stmts_of s n)) (λ k. Stmts (body k bs) ∷ below) (λ k ts h. stmt_runs s n b k bs ts below h) (λ k ts x h. stmt_less s n k ts x) (length ts) k ts fits

pub stmts_all_run : (s : Bool) (n : ℕ) → StmtRuns s n
stmts_all_run s zero = record { stmts_does = stmts_run s zero tt }
stmts_all_run s (suc n) = record { stmts_does = stmts_run s (suc n) (stmts_all_run s n) }

pub stmts_run_below : (s : Bool) (n : ℕ) → Below (StmtRuns s) n
stmts_run_below s zero = tt
stmts_run_below s (suc n) = stmts_all_run s n
