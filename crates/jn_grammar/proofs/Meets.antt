-- How the proofs compose that what is in the grammar is read, up to the first word that passes a limit.
use Rattle.std.proofs.Common.{◌≡◌, ℕ, zero, suc, ◌≤◌, ◌+◌, Bool, true, false, List, [], ◌∷◌, ◌++◌, length, Option, Some, None, Ok, Err, refl, sym, ◌∙◌, ap, subst, append_assoc, length-append, arith, if◌then◌else◌}
use Rattle.jn_base.specs.declared.refusal.Limit.{Limit}
use Rattle.jn_base.specs.declared.word.Lexeme.{Lexeme}
use Rattle.jn_base.specs.Parts.{Part}
use Rattle.jn_base.specs.Spelling.{limit_of}
use Rattle.jn_grammar.specs.declared.fault.Fault.TheVariants.{Passed}
use Rattle.jn_grammar.specs.Begins.{lexemes}
use Rattle.jn_grammar.specs.Answers.{Answer, ◌>>=◌, many}
use Rattle.jn_grammar.proofs.Tools.{lexemes_append, length_lexemes}
use Rattle.jn_grammar.proofs.Row.{Row, none, next}

-- a fault where a word passes a limit, and else r
abbrev pub met : {A : Type 0} → Option Limit → ℕ → Answer A → Answer A
met (Some l) left r = Err (Passed l left)
met None left r = r

-- The fault at the first of the words w that passes a limit, where v stands behind them; r, where none does.
abbrev pub meets : {A : Type 0} → List Part → List Lexeme → Answer A → Answer A
meets [] v r = r
meets (t ∷ w) v r = met (limit_of t.role) (suc (length w + length v)) (meets w v r)

met_bind : {A B : Type 0} (l : Option Limit) (left : ℕ) (r : Answer A) (g : A × List Lexeme → Answer B) → (met l left r >>= g) ≡ met l left (r >>= g)
met_bind (Some l) left r g = refl
met_bind None left r g = refl

pub meets_bind : {A B : Type 0} (w : List Part) (v : List Lexeme) (r : Answer A) (g : A × List Lexeme → Answer B) → (meets w v r >>= g) ≡ meets w v (r >>= g)
meets_bind [] v r g = refl
meets_bind (t ∷ w) v r g = met_bind (limit_of t.role) (suc (length w + length v)) (meets w v r) g ∙ ap (λ u. met (limit_of t.role) (suc (length w + length v)) u) (meets_bind w v r g)

pub meets_append : {A : Type 0} (w u : List Part) (v : List Lexeme) (r : Answer A) → meets (w ++ u) v r ≡ meets w (lexemes u ++ v) (meets u v r)
meets_append [] u v r = refl
meets_append (t ∷ w) u v r =
    let same : suc (length (w ++ u) + length v) ≡ suc (length w + length (lexemes u ++ v)) = omega (arith, length-append w u, length-append (lexemes u) v, length_lexemes u) in
    ap (λ i. met (limit_of t.role) i (meets (w ++ u) v r)) same ∙ ap (λ x. met (limit_of t.role) (suc (length w + length (lexemes u ++ v))) x) (meets_append w u v r)

pub words_append : (w u : List Part) (v : List Lexeme) → lexemes (w ++ u) ++ v ≡ lexemes w ++ (lexemes u ++ v)
words_append w u v = ap (λ (s : List Lexeme). s ++ v) (lexemes_append w u) ∙ append_assoc (lexemes w) (lexemes u) v

-- What is read of these words is the value, or the fault at the first that passes a limit; v stays.
abbrev pub Reads : {A : Type 0} → (List Lexeme → Answer A) → List Part → List Lexeme → A → Type 0
Reads f w v x = f (lexemes w ++ v) ≡ meets w v (Ok (x, v))

-- two readers after one another
pub then_reads : {A B : Type 0} (f : List Lexeme → Answer A) (g : A × List Lexeme → Answer B) (w u : List Part) (v : List Lexeme) (x : A) (r : Answer B)
    → Reads f w (lexemes u ++ v) x → g (x, lexemes u ++ v) ≡ meets u v r → (f (lexemes (w ++ u) ++ v) >>= g) ≡ meets (w ++ u) v r
then_reads {A} {B} f g w u v x r a b =
    ap (λ (s : List Lexeme). f s >>= g) (words_append w u v)
    ∙ ap (λ (s : Answer A). s >>= g) a
    ∙ meets_bind w (lexemes u ++ v) (Ok (x, lexemes u ++ v)) g
    ∙ ap (λ (s : Answer B). meets w (lexemes u ++ v) s) b
    ∙ sym (meets_append w u v r)

-- after a first reader that gives this without a limit
pub then_ok : {A B : Type 0} {r : Answer A} (g : A × List Lexeme → Answer B) {x : A × List Lexeme} {y : Answer B} → r ≡ Ok x → g x ≡ y → (r >>= g) ≡ y
then_ok g e f = ap (λ r. r >>= g) e ∙ f

pub if_true : {A : Type 0} (c : Bool) (x y : A) → c ≡ true → (if c then x else y) ≡ x
if_true c x y h = ap (λ (b : Bool). if b then x else y) h

pub if_false : {A : Type 0} (c : Bool) (x y : A) → c ≡ false → (if c then x else y) ≡ y
if_false c x y h = ap (λ (b : Bool). if b then x else y) h

-- A row is read, whatever does not go on with it.
pub many_again : {A : Type 0} (Is : ℕ → List Part → A → Type 0) (more : List Lexeme → Bool) (item : ℕ → List Lexeme → Answer A) (Fits : List Lexeme → Type 0)
    → ((k : ℕ) (w : List Part) (x : A) → Is k w x → (v : List Lexeme) → (more (lexemes w ++ v) ≡ true) × (1 ≤ length w) × Fits (lexemes w ++ v))
    → ((k : ℕ) (w : List Part) (x : A) → Is k w x → (v : List Lexeme) → Fits v → Reads (item k) w v x)
    → {k : ℕ} {w : List Part} {xs : List A} → Row Is k w xs → (v : List Lexeme) → more v ≡ false → Fits v → (clock : ℕ) → length w + length v ≤ clock
    → Reads (many more item clock k) w v xs
unfolding many
many_again Is more item Fits goes again none v e f zero room = refl
many_again Is more item Fits goes again none v e f (suc clock) room = if_false (more v) _ _ e
many_again Is more item Fits goes again (next {k} {w} {v = u} {x} {xs} d ds) v e f zero room =
    let l = (goes k w x d (lexemes u ++ v)).1 in absurd (omega (arith, l, length-append w u))
many_again {A} Is more item Fits goes again (next {k} {w} {v = u} {x} {xs} d ds) v e f (suc clock) room =
    let g = goes k w x d (lexemes u ++ v) in
    let room' : length u + length v ≤ clock = omega (arith, g.1, length-append w u) in
    if_true (more (lexemes (w ++ u) ++ v)) _ _ (ap more (words_append w u v) ∙ g.0)
    ∙ then_reads (item k) (λ y. many more item clock (suc k) y.1 >>= λ others. Ok (y.0 ∷ others.0, others.1)) w u v x (Ok (x ∷ xs, v))
    (again k w x d (lexemes u ++ v) (fits_row ds))
    (ap (λ (r : Answer (List A)). r >>= λ others. Ok (x ∷ others.0, others.1)) (many_again Is more item Fits goes again ds v e f clock room')
    ∙ meets_bind u v (Ok (xs, v)) (λ others. Ok (x ∷ others.0, others.1)))
  where
    fits_row : {j : ℕ} {u : List Part} {ys : List A} → Row Is j u ys → Fits (lexemes u ++ v)
    fits_row none = f
    fits_row (next {k = j} {w} {v = u} {x} d ds) = subst Fits (sym (words_append w u v)) (goes j w x d (lexemes u ++ v)).2
