-- Items in a row that hand on a count.
use Rattle.std.proofs.Common.{◌≡◌, ℕ, zero, suc, ◌+◌, ◌≤◌, ◌<◌, Bool, true, false, List, [], ◌∷◌, ◌++◌, length, Ok, refl, sym, ◌∙◌, ap, subst, length-append, arith}
use Rattle.jn_base.specs.declared.word.Lexeme.{Lexeme}
use Rattle.jn_base.specs.Parts.{Part}
use Rattle.jn_grammar.specs.Begins.{lexemes}
use Rattle.jn_grammar.specs.Answers.{Answer, ◌>>=◌}
use Rattle.jn_grammar.specs.ReadStmts.{counting}
use Rattle.jn_grammar.specs.Expected.{Symbol, Going, run}
use Rattle.jn_grammar.proofs.Tools.{Sound, sound_bind, sound_if, glue, length_lexemes}
use Rattle.jn_grammar.proofs.Meets.{meets_bind, words_append, Reads, then_reads, if_true, if_false}
use Rattle.jn_grammar.proofs.Machine.{Comes, comes_if, comes_then}

-- each of them an X, from the count k on
pub data Counted {A : Type 0} (Is : ℕ → List Part → A × ℕ → Type 0) : ℕ → List Part → List A × ℕ → Type 0 where
  none : {k : ℕ} → Counted Is k [] ([], k)
  next : {k m n : ℕ} {w v : List Part} {x : A} {xs : List A} → Is k w (x, m) → Counted Is m v (xs, n) → Counted Is k (w ++ v) (x ∷ xs, n)

-- What is read is a row.
pub counting_sound : {A : Type 0} (Is : ℕ → List Part → A × ℕ → Type 0) (more : List Lexeme → Bool) (item : ℕ → List Lexeme → Answer (A × ℕ))
    → ((k : ℕ) (ts : List Lexeme) → more ts ≡ true → Sound (Is k) ts (item k ts))
    → (clock k : ℕ) (ts : List Lexeme) → Sound (Counted Is k) ts (counting more item clock k ts)
unfolding counting
counting_sound Is more item h zero k ts = record { words = []; split = refl; is = none }
counting_sound Is more item h (suc clock) k ts =
    sound_if (Counted Is k) ts (more ts) _ (Ok (([], k), ts))
    (λ e. sound_bind (Is k) (Counted Is k) ts ts (item k ts) _ (h k ts e)
    (λ x tx. sound_bind (Counted Is x.0.1) (Counted Is k) x.1 ts (counting more item clock x.0.1 x.1) _ (counting_sound Is more item h clock x.0.1 x.1)
    (λ xs txs. record { words = tx.words ++ txs.words; split = glue _ _ _ _ _ tx.split txs.split; is = next tx.is txs.is })))
    (λ e. record { words = []; split = refl; is = none })

-- A row is read, up to what does not go on with it.
pub counting_again : {A : Type 0} (Is : ℕ → List Part → A × ℕ → Type 0) (more : List Lexeme → Bool) (item : ℕ → List Lexeme → Answer (A × ℕ)) (Fits : List Lexeme → Type 0)
    → ((k : ℕ) (w : List Part) (x : A × ℕ) → Is k w x → (v : List Lexeme) → (more (lexemes w ++ v) ≡ true) × (1 ≤ length w) × Fits (lexemes w ++ v))
    → ((k : ℕ) (w : List Part) (x : A × ℕ) → Is k w x → (v : List Lexeme) → Fits v → Reads (item k) w v x)
    → {k : ℕ} {w : List Part} {xs : List A × ℕ} → Counted Is k w xs → (v : List Lexeme) → more v ≡ false → Fits v → (clock : ℕ) → length w + length v ≤ clock
    → Reads (counting more item clock k) w v xs
unfolding counting
counting_again Is more item Fits goes again none v e f zero room = refl
counting_again Is more item Fits goes again none v e f (suc clock) room = if_false (more v) _ _ e
counting_again Is more item Fits goes again (next {k} {m} {n} {w} {v = u} {x} {xs} i is) v e f zero room =
    let l = (goes k w (x, m) i (lexemes u ++ v)).1 in absurd (omega (arith, l, length-append w u))
counting_again {A} Is more item Fits goes again (next {k} {m} {n} {w} {v = u} {x} {xs} i is) v e f (suc clock) room =
    let g = goes k w (x, m) i (lexemes u ++ v) in
    let room' : length u + length v ≤ clock = omega (arith, g.1, length-append w u) in
    if_true (more (lexemes (w ++ u) ++ v)) _ _ (ap more (words_append w u v) ∙ g.0)
    ∙ then_reads (item k) (λ y. counting more item clock y.0.1 y.1 >>= λ others. Ok ((y.0.0 ∷ others.0.0, others.0.1), others.1)) w u v (x, m) (Ok ((x ∷ xs, n), v))
    (again k w (x, m) i (lexemes u ++ v) (fits_row is))
    (ap (λ (r : Answer (List A × ℕ)). r >>= λ others. Ok ((x ∷ others.0.0, others.0.1), others.1)) (counting_again Is more item Fits goes again is v e f clock room')
    ∙ meets_bind u v (Ok ((xs, n), v)) (λ others. Ok ((x ∷ others.0.0, others.0.1), others.1)))
  where
    fits_row : {j : ℕ} {u : List Part} {ys : List A × ℕ} → Counted Is j u ys → Fits (lexemes u ++ v)
    fits_row none = f
    fits_row (next {k = j} {m} {n} {w} {v = u} {x} i is) = subst Fits (sym (words_append w u v)) (goes j w (x, m) i (lexemes u ++ v)).2

-- with as many turns as there are words
pub counted_again : {A : Type 0} (Is : ℕ → List Part → A × ℕ → Type 0) (more : List Lexeme → Bool) (item : ℕ → List Lexeme → Answer (A × ℕ)) (Fits : List Lexeme → Type 0)
    → ((k : ℕ) (w : List Part) (x : A × ℕ) → Is k w x → (v : List Lexeme) → (more (lexemes w ++ v) ≡ true) × (1 ≤ length w) × Fits (lexemes w ++ v))
    → ((k : ℕ) (w : List Part) (x : A × ℕ) → Is k w x → (v : List Lexeme) → Fits v → Reads (item k) w v x)
    → {k : ℕ} {w : List Part} {xs : List A × ℕ} → Counted Is k w xs → (v : List Lexeme) → more v ≡ false → Fits v
    → Reads (λ ts. counting more item (length ts) k ts) w v xs
counted_again Is more item Fits goes again {k} {w} is v e f =
    let fits : length w + length v ≤ length (lexemes w ++ v) = omega (arith, length-append (lexemes w) v, length_lexemes w) in
    counting_again Is more item Fits goes again is v e f (length (lexemes w ++ v)) fits

-- THE MACHINE GOES OVER THE ROW. It is at `at k` where the count is k.
pub counting_runs : {A : Type 0} (s : Bool) (n : ℕ) (more : List Lexeme → Bool) (item : ℕ → List Lexeme → Answer (A × ℕ)) (at : ℕ → List Symbol)
    → ((k : ℕ) (ts : List Lexeme) → more ts ≡ true → Comes (run s ts (Going n (at k))) (λ x. run s x.1 (Going n (at x.0.1))) (item k ts))
    → ((k : ℕ) (ts : List Lexeme) (x : (A × ℕ) × List Lexeme) → more ts ≡ true → item k ts ≡ Ok x → length x.1 < length ts)
    → (clock k : ℕ) (ts : List Lexeme) → length ts ≤ clock
    → Comes (run s ts (Going n (at k))) (λ xs. run s xs.1 (Going n (at xs.0.1))) (counting more item clock k ts)
unfolding counting
counting_runs s n more item at goes less zero k ts fits = record { eq = refl }
counting_runs s n more item at goes less (suc clock) k ts fits =
    comes_if (more ts)
    (λ e. comes_then (goes k ts e)
    (λ x is. let l = less k ts x e is in let room : length x.1 ≤ clock = omega arith in
    comes_then (counting_runs s n more item at goes less clock x.0.1 x.1 room) (λ _ _. record { eq = refl })))
    (λ e. record { eq = refl })
