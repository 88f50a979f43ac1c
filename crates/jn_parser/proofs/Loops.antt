-- Loops over a row, and what is read one deeper.
use Rattle.std.proofs.Common.{◌≡◌, ℕ, zero, suc, ◌-◌, ◌≤◌, ◌<◌, Bool, true, false, List, [], ◌∷◌, ◌++◌, length, Ok, Err, refl, sym, ◌∙◌, ap, append_assoc, arith}
use Rattle.std.proofs.lemmas.List.{append-nil}
use Rattle.jn_base.specs.declared.word.Lexeme.{Lexeme}
use Rattle.jn_grammar.specs.declared.fault.Fault.{Fault}
use Rattle.jn_grammar.specs.Answers.{Answer, ◌>>=◌, many}
use Rattle.jn_grammar.specs.ReadTypes.{term_in}
use Rattle.jn_grammar.specs.ReadExprs.{level, closed, inside}
use Rattle.jn_grammar.specs.ReadStmts.{counting, in_body}
use Rattle.jn_grammar.specs.ReadDecls.{in_file}
use Rattle.jn_grammar.proofs.Meets.{if_true, if_false}
use Rattle.jn_parser.specs.declared.fault.Stop.{Stop}
use Rattle.jn_parser.specs.declared.fault.Stop.TheVariants as stop
use Rattle.jn_parser.specs.Giving.{FailsAs, with_front}

-- What a loop over a row keeps: the items so far in front of the others, the first of them the k-th, are the answer.
abbrev pub Rowing : {A : Type 0} → (List Lexeme → Bool) → (ℕ → List Lexeme → Answer A) → ℕ → List A → List Lexeme → Answer (List A) → Type 0
Rowing more item k found rest answer = (clock : ℕ) × (length rest ≤ clock) × (with_front found (many more item clock k rest) ≡ answer)

pub row_starts : {A : Type 0} (more : List Lexeme → Bool) (item : ℕ → List Lexeme → Answer A) (k : ℕ) (ts : List Lexeme) → Rowing more item k [] ts (many more item (length ts) k ts)
row_starts {A} more item k ts = (length ts, omega arith, by_answer (many more item (length ts) k ts))
  where
    by_answer : (r : Answer (List A)) → with_front [] r ≡ r
    by_answer (Ok x) = refl
    by_answer (Err f) = refl

pub row_goes : {A : Type 0} (more : List Lexeme → Bool) (item : ℕ → List Lexeme → Answer A) (k : ℕ) (found : List A) (rest : List Lexeme) (answer : Answer (List A)) (x : A) (after : List Lexeme)
    → more rest ≡ true → item k rest ≡ Ok (x, after) → length after < length rest → Rowing more item k found rest answer → Rowing more item (suc k) (found ++ x ∷ []) after answer
unfolding many
row_goes more item k found rest answer x after m i less (zero, fits, eq) = absurd (omega arith)
row_goes {A} more item k found rest answer x after m i less (suc clock, fits, eq) =
    (clock, omega arith, sym (by_answer (many more item clock (suc k) after)) ∙ sym (ap (λ r. with_front found r) opened) ∙ eq)
  where
    by_answer : (r : Answer (List A)) → with_front found (r >>= λ others. Ok (x ∷ others.0, others.1)) ≡ with_front (found ++ x ∷ []) r
    by_answer (Ok y) = ap (λ (ys : List A). Ok (ys, y.1)) (sym (append_assoc found (x ∷ []) y.0))
    by_answer (Err f) = refl

    opened : many more item (suc clock) k rest ≡ (many more item clock (suc k) after >>= λ others. Ok (x ∷ others.0, others.1))
    opened = if_true (more rest) _ _ m ∙ ap (λ r. r >>= λ y. many more item clock (suc k) y.1 >>= λ others. Ok (y.0 ∷ others.0, others.1)) i

pub row_fails : {A : Type 0} (more : List Lexeme → Bool) (item : ℕ → List Lexeme → Answer A) (k : ℕ) (found : List A) (rest : List Lexeme) (answer : Answer (List A)) (f : Fault)
    → more rest ≡ true → item k rest ≡ Err f → (0 < length rest) → Rowing more item k found rest answer → answer ≡ Err f
unfolding many
row_fails more item k found rest answer f m i some (zero, fits, eq) = absurd (omega arith)
row_fails more item k found rest answer f m i some (suc clock, fits, eq) =
    sym eq ∙ ap (λ r. with_front found r) (if_true (more rest) _ _ m ∙ ap (λ r. r >>= λ y. many more item clock (suc k) y.1 >>= λ others. Ok (y.0 ∷ others.0, others.1)) i)

pub row_ends : {A : Type 0} (more : List Lexeme → Bool) (item : ℕ → List Lexeme → Answer A) (k : ℕ) (found : List A) (rest : List Lexeme) (answer : Answer (List A))
    → more rest ≡ false → Rowing more item k found rest answer → answer ≡ Ok (found, rest)
unfolding many
row_ends {A} more item k found rest answer m (zero, fits, eq) = sym eq ∙ ap (λ (xs : List A). Ok (xs, rest)) (append-nil found)
row_ends {A} more item k found rest answer m (suc clock, fits, eq) = sym eq ∙ ap (λ r. with_front found r) (if_false (more rest) _ _ m) ∙ ap (λ (xs : List A). Ok (xs, rest)) (append-nil found)

pub row_error : {A : Type 0} (more : List Lexeme → Bool) (item : ℕ → List Lexeme → Answer A) (k : ℕ) (found : List A) (rest : List Lexeme) (answer : Answer (List A)) (e : Stop)
    → more rest ≡ true → FailsAs e (item k rest) → (0 < length rest) → Rowing more item k found rest answer → FailsAs e answer
row_error more item k found rest answer stop.Memory m i some inv = tt
row_error more item k found rest answer (stop.Refused f) m i some inv = row_fails more item k found rest answer f m i some inv

-- ---- rows whose items are read alike, the how-manieth they are

abbrev pub Rowed : {A : Type 0} → (List Lexeme → Bool) → (ℕ → List Lexeme → Answer A) → List A → List Lexeme → Answer (List A) → Type 0
Rowed more item found rest answer = (k : ℕ) × Rowing more item k found rest answer

pub rowed_starts : {A : Type 0} (more : List Lexeme → Bool) (item : ℕ → List Lexeme → Answer A) (k : ℕ) (ts : List Lexeme) → Rowed more item [] ts (many more item (length ts) k ts)
rowed_starts more item k ts = (k, row_starts more item k ts)

pub rowed_goes : {A : Type 0} (more : List Lexeme → Bool) (item : ℕ → List Lexeme → Answer A) (found : List A) (rest : List Lexeme) (answer : Answer (List A)) (x : A) (after : List Lexeme)
    → more rest ≡ true → ((k : ℕ) → item k rest ≡ Ok (x, after)) → length after < length rest → Rowed more item found rest answer → Rowed more item (found ++ x ∷ []) after answer
rowed_goes more item found rest answer x after m i less (k, inv) = (suc k, row_goes more item k found rest answer x after m (i k) less inv)

pub rowed_ends : {A : Type 0} (more : List Lexeme → Bool) (item : ℕ → List Lexeme → Answer A) (found : List A) (rest : List Lexeme) (answer : Answer (List A))
    → more rest ≡ false → Rowed more item found rest answer → answer ≡ Ok (found, rest)
rowed_ends more item found rest answer m (k, inv) = row_ends more item k found rest answer m inv

pub rowed_error : {A : Type 0} (more : List Lexeme → Bool) (item : ℕ → List Lexeme → Answer A) (found : List A) (rest : List Lexeme) (answer : Answer (List A)) (e : Stop)
    → more rest ≡ true → ((k : ℕ) → FailsAs e (item k rest)) → (0 < length rest) → Rowed more item found rest answer → FailsAs e answer
rowed_error more item found rest answer e m i some (k, inv) = row_error more item k found rest answer e m (i k) some inv

-- ---- one deeper

pub level_none : (n : ℕ) → n ≡ 0 → level n ≡ closed
unfolding level
level_none zero e = refl
level_none (suc n) e = absurd (omega arith)

pub level_some : (n : ℕ) → (n ≡ 0 → ⊥) → level n ≡ inside (n - 1) (level (n - 1))
unfolding level
level_some zero e = absurd (e refl)
level_some (suc n) e = let one : suc n - 1 ≡ n = omega arith in ap (λ m. inside m (level m)) (sym one)

pub term_at_is : (n : ℕ) (ts : List Lexeme) → (level n).term_at ts ≡ term_in n ts
unfolding level
term_at_is zero ts = refl
term_at_is (suc n) ts = refl

-- ---- rows whose items hand on a count

abbrev pub with_counted : {A : Type 0} → List A → Answer (List A × ℕ) → Answer (List A × ℕ)
with_counted found r = r >>= λ x. Ok ((found ++ x.0.0, x.0.1), x.1)

abbrev pub Counting : {A : Type 0} → (List Lexeme → Bool) → (ℕ → List Lexeme → Answer (A × ℕ)) → ℕ → List A → List Lexeme → Answer (List A × ℕ) → Type 0
Counting more item k found rest answer = (clock : ℕ) × (length rest ≤ clock) × (with_counted found (counting more item clock k rest) ≡ answer)

pub count_starts : {A : Type 0} (more : List Lexeme → Bool) (item : ℕ → List Lexeme → Answer (A × ℕ)) (k : ℕ) (ts : List Lexeme) → Counting more item k [] ts (counting more item (length ts) k ts)
count_starts {A} more item k ts = (length ts, omega arith, by_answer (counting more item (length ts) k ts))
  where
    by_answer : (r : Answer (List A × ℕ)) → with_counted [] r ≡ r
    by_answer (Ok x) = refl
    by_answer (Err f) = refl

pub count_goes : {A : Type 0} (more : List Lexeme → Bool) (item : ℕ → List Lexeme → Answer (A × ℕ)) (k : ℕ) (found : List A) (rest : List Lexeme) (answer : Answer (List A × ℕ)) (x : A) (j : ℕ) (after : List Lexeme)
    → more rest ≡ true → item k rest ≡ Ok ((x, j), after) → length after < length rest → Counting more item k found rest answer → Counting more item j (found ++ x ∷ []) after answer
unfolding counting
count_goes more item k found rest answer x j after m i less (zero, fits, eq) = absurd (omega arith)
count_goes {A} more item k found rest answer x j after m i less (suc clock, fits, eq) =
    (clock, omega arith, sym (by_answer (counting more item clock j after)) ∙ sym (ap (λ r. with_counted found r) opened) ∙ eq)
  where
    by_answer : (r : Answer (List A × ℕ)) → with_counted found (r >>= λ others. Ok ((x ∷ others.0.0, others.0.1), others.1)) ≡ with_counted (found ++ x ∷ []) r
    by_answer (Ok y) = ap (λ (ys : List A). Ok ((ys, y.0.1), y.1)) (sym (append_assoc found (x ∷ []) y.0.0))
    by_answer (Err f) = refl

    opened : counting more item (suc clock) k rest ≡ (counting more item clock j after >>= λ others. Ok ((x ∷ others.0.0, others.0.1), others.1))
    opened = if_true (more rest) _ _ m ∙ ap (λ r. r >>= λ y. counting more item clock y.0.1 y.1 >>= λ others. Ok ((y.0.0 ∷ others.0.0, others.0.1), others.1)) i

pub count_ends : {A : Type 0} (more : List Lexeme → Bool) (item : ℕ → List Lexeme → Answer (A × ℕ)) (k : ℕ) (found : List A) (rest : List Lexeme) (answer : Answer (List A × ℕ))
    → more rest ≡ false → Counting more item k found rest answer → answer ≡ Ok ((found, k), rest)
unfolding counting
count_ends {A} more item k found rest answer m (zero, fits, eq) = sym eq ∙ ap (λ (xs : List A). Ok ((xs, k), rest)) (append-nil found)
count_ends {A} more item k found rest answer m (suc clock, fits, eq) = sym eq ∙ ap (λ r. with_counted found r) (if_false (more rest) _ _ m) ∙ ap (λ (xs : List A). Ok ((xs, k), rest)) (append-nil found)

count_fails : {A : Type 0} (more : List Lexeme → Bool) (item : ℕ → List Lexeme → Answer (A × ℕ)) (k : ℕ) (found : List A) (rest : List Lexeme) (answer : Answer (List A × ℕ)) (f : Fault)
    → more rest ≡ true → item k rest ≡ Err f → (0 < length rest) → Counting more item k found rest answer → answer ≡ Err f
unfolding counting
count_fails more item k found rest answer f m i some (zero, fits, eq) = absurd (omega arith)
count_fails more item k found rest answer f m i some (suc clock, fits, eq) =
    sym eq ∙ ap (λ r. with_counted found r) (if_true (more rest) _ _ m ∙ ap (λ r. r >>= λ y. counting more item clock y.0.1 y.1 >>= λ others. Ok ((y.0.0 ∷ others.0.0, others.0.1), others.1)) i)

pub count_error : {A : Type 0} (more : List Lexeme → Bool) (item : ℕ → List Lexeme → Answer (A × ℕ)) (k : ℕ) (found : List A) (rest : List Lexeme) (answer : Answer (List A × ℕ)) (e : Stop)
    → more rest ≡ true → FailsAs e (item k rest) → (0 < length rest) → Counting more item k found rest answer → FailsAs e answer
count_error more item k found rest answer stop.Memory m i some inv = tt
count_error more item k found rest answer (stop.Refused f) m i some inv = count_fails more item k found rest answer f m i some inv

pub body_there : (ts : List Lexeme) → in_body ts ≡ true → 0 < length ts
body_there [] h = cc
body_there (t ∷ ts) h = omega arith

pub file_there : (ts : List Lexeme) → in_file ts ≡ true → 0 < length ts
file_there [] h = cc
file_there (t ∷ ts) h = omega arith
