-- How the proofs compose that the machine does what the reader does. No symbol of the grammar is named but those of single words.
use Rattle.std.proofs.Common.{◌≡◌, ℕ, zero, suc, ◌≤◌, ◌<◌, Bool, true, false, List, [], ◌∷◌, ◌++◌, length, Ok, Err, refl, ◌∙◌, ap, arith, if◌then◌else◌}
use Rattle.jn_base.specs.declared.word.Word.{Word}
use Rattle.jn_base.specs.declared.word.Word.TheVariants as word
use Rattle.jn_base.specs.declared.word.Lexeme.{Lexeme}
use Rattle.jn_base.specs.Words.{lexeme}
use Rattle.jn_grammar.specs.declared.fault.Fault.{Fault}
use Rattle.jn_grammar.specs.declared.fault.Fault.TheVariants.{Syntax}
use Rattle.jn_grammar.specs.Begins.{begins, behind, is_word}
use Rattle.jn_grammar.specs.Answers.{Answer, ◌>>=◌, here, expect, name_by, name_in, many}
use Rattle.jn_grammar.specs.Expected.{Symbol, Expects, Shuts, AName, OperandEnd, Takes, Opens, Closes, Leaves, Refuses, on, does, led, opened, step, State, Going, Fails, run}

-- What an answer says of the machine: from its state with the symbol on top it comes to the state without.
abbrev pub into : {A : Type 0} → (A × List Lexeme → State) → Answer A → State
into f (Ok x) = f x
into f (Err e) = Fails e

-- The machine comes from the state s to what the answer says: a record, so that antt finds its parts.
pub record Comes {A : Type 0} (s : State) (f : A × List Lexeme → State) (r : Answer A) : Type 0 where
  pub eq : s ≡ into f r

-- ... from the state with the symbol on top to the state without
abbrev pub Does : {A : Type 0} → Bool → Symbol → ℕ → List Lexeme → List Symbol → Answer A → Type 0
Does s x n ts below r = Comes (run s ts (Going n (x ∷ below))) (λ y. run s y.1 (Going n below)) r

pub run_fails : (s : Bool) (ts : List Lexeme) (f : Fault) → run s ts (Fails f) ≡ Fails f
run_fails s [] f = refl
run_fails s (t ∷ ts) f = refl

pub comes_then : {A B : Type 0} {s : State} {f : A × List Lexeme → State} {h : B × List Lexeme → State} {r : Answer A} {g : A × List Lexeme → Answer B}
    → Comes s f r → ((x : A × List Lexeme) → r ≡ Ok x → Comes (f x) h (g x)) → Comes s h (r >>= g)
comes_then {f = f} {h} {r} {g} c k = record { eq = c.eq ∙ by_answer r k }
  where
    by_answer : (r : Answer _) → ((x : _ × List Lexeme) → r ≡ Ok x → Comes (f x) h (g x)) → into f r ≡ into h (r >>= g)
    by_answer (Ok x) k = (k x refl).eq
    by_answer (Err e) k = refl

pub from : {A : Type 0} {s u : State} {f : A × List Lexeme → State} {r : Answer A} → s ≡ u → Comes u f r → Comes s f r
from e c = record { eq = e ∙ c.eq }

-- by the test of the reader
pub comes_if : {A : Type 0} {f : A × List Lexeme → State} {s : State} (c : Bool) {x y : Answer A}
    → (c ≡ true → Comes s f x) → (c ≡ false → Comes s f y) → Comes s f (if c then x else y)
comes_if true a b = a refl
comes_if false a b = b refl

-- a test of the reader that the machine makes too
pub comes_both : {A : Type 0} {f : A × List Lexeme → State} {s : State} (c : Bool) {u v : State} {x y : Answer A}
    → s ≡ (if c then u else v) → (c ≡ true → Comes u f x) → (c ≡ false → Comes v f y) → Comes s f (if c then x else y)
comes_both true e a b = from e (a refl)
comes_both false e a b = from e (b refl)

-- a symbol that takes a word, or else leaves it
pub takes_or_leaves : (s : Bool) (w : Word) (taken below : List Symbol) (n : ℕ) (ts : List Lexeme) (x : Symbol)
    → ((k : Word) → does x k ≡ on w (Takes taken) Leaves k)
    → run s ts (Going n (x ∷ below)) ≡ (if begins w ts then run s (behind ts) (Going n (taken ++ below)) else run s ts (Going n below))
takes_or_leaves s w taken below n [] x h = refl
takes_or_leaves s w taken below n (t ∷ ts) x h = ap (λ a. run s ts (led s a n below (suc (length ts)) (λ i. step s below i t.word (suc (length ts))))) (h t.word) ∙ by_bool (is_word w t.word)
  where
    by_bool : (c : Bool) → run s ts (led s (if c then Takes taken else Leaves) n below (suc (length ts)) (λ i. step s below i t.word (suc (length ts))))
        ≡ (if c then run s ts (Going n (taken ++ below)) else run s ts (step s below n t.word (suc (length ts))))
    by_bool true = refl
    by_bool false = refl

-- a symbol that opens by a word, or else leaves it
pub opens_or_leaves : (s : Bool) (w : Word) (taken below : List Symbol) (n : ℕ) (ts : List Lexeme) (x : Symbol)
    → ((k : Word) → does x k ≡ on w (Opens taken) Leaves k)
    → run s ts (Going n (x ∷ below)) ≡ (if begins w ts then run s (behind ts) (opened n (taken ++ below) (length ts)) else run s ts (Going n below))
opens_or_leaves s w taken below n [] x h = refl
opens_or_leaves s w taken below n (t ∷ ts) x h = ap (λ a. run s ts (led s a n below (suc (length ts)) (λ i. step s below i t.word (suc (length ts))))) (h t.word) ∙ by_bool (is_word w t.word)
  where
    by_bool : (c : Bool) → run s ts (led s (if c then Opens taken else Leaves) n below (suc (length ts)) (λ i. step s below i t.word (suc (length ts))))
        ≡ (if c then run s ts (opened n (taken ++ below) (suc (length ts))) else run s ts (step s below n t.word (suc (length ts))))
    by_bool true = refl
    by_bool false = refl

-- a symbol that opens by a word, and refuses each other
pub opens_or_refuses : (s : Bool) (w : Word) (taken below : List Symbol) (n : ℕ) (ts : List Lexeme) (x : Symbol)
    → ((k : Word) → does x k ≡ on w (Opens taken) Refuses k)
    → run s ts (Going n (x ∷ below)) ≡ (if begins w ts then run s (behind ts) (opened n (taken ++ below) (length ts)) else Fails (Syntax (length ts)))
opens_or_refuses s w taken below n [] x h = refl
opens_or_refuses s w taken below n (t ∷ ts) x h = ap (λ a. run s ts (led s a n below (suc (length ts)) (λ i. step s below i t.word (suc (length ts))))) (h t.word) ∙ by_bool (is_word w t.word)
  where
    by_bool : (c : Bool) → run s ts (led s (if c then Opens taken else Refuses) n below (suc (length ts)) (λ i. step s below i t.word (suc (length ts))))
        ≡ (if c then run s ts (opened n (taken ++ below) (suc (length ts))) else Fails (Syntax (suc (length ts))))
    by_bool true = refl
    by_bool false = run_fails s ts (Syntax (suc (length ts)))

-- the words that must come
pub expects : (s : Bool) (w : Word) (n : ℕ) (ts : List Lexeme) (below : List Symbol) → Does s (Expects w) n ts below (expect w ts)
expects s w n [] below = record { eq = refl }
expects s w n (t ∷ ts) below = record { eq = by_bool (is_word w t.word) }
  where
    by_bool : (c : Bool) → run s ts (led s (if c then Takes [] else Refuses) n below (suc (length ts)) (λ i. step s below i t.word (suc (length ts))))
        ≡ into (λ y. run s y.1 (Going n below)) (if c then Ok (t.at, ts) else here (t ∷ ts))
    by_bool true = refl
    by_bool false = run_fails s ts (Syntax (suc (length ts)))

pub shuts : (s : Bool) (w : Word) (n : ℕ) (ts : List Lexeme) (below : List Symbol) → Comes (run s ts (Going n (Shuts w ∷ below))) (λ y. run s y.1 (Going (suc n) below)) (expect w ts)
shuts s w n [] below = record { eq = refl }
shuts s w n (t ∷ ts) below = record { eq = by_bool (is_word w t.word) }
  where
    by_bool : (c : Bool) → run s ts (led s (if c then Closes [] else Refuses) n below (suc (length ts)) (λ i. step s below i t.word (suc (length ts))))
        ≡ into (λ y. run s y.1 (Going (suc n) below)) (if c then Ok (t.at, ts) else here (t ∷ ts))
    by_bool true = refl
    by_bool false = run_fails s ts (Syntax (suc (length ts)))

pub operand_ends : (s : Bool) (n : ℕ) (ts : List Lexeme) (below : List Symbol) → run s ts (Going n (OperandEnd ∷ below)) ≡ run s ts (Going (suc n) below)
operand_ends s n [] below = refl
operand_ends s n (t ∷ ts) below = refl

pub names : (s : Bool) (n : ℕ) (ts : List Lexeme) (below : List Symbol) → Does s AName n ts below (name_in ts)
names s n [] below = record { eq = refl }
names s n (t ∷ ts) below = by_word t.word
  where
    by_word : (k : Word) → Does s AName n (lexeme k t.at ∷ ts) below (name_by k (lexeme k t.at) ts)
    by_word (word.Name x) = record { eq = refl }
    by_word k = record { eq = run_fails s ts (Syntax (suc (length ts))) }

-- THE MACHINE GOES OVER A ROW. It is at `at k` before the k-th item and at `out` behind the last.
pub many_runs : {A : Type 0} (s : Bool) (n : ℕ) (more : List Lexeme → Bool) (item : ℕ → List Lexeme → Answer A) (at : ℕ → List Symbol) (out : List Symbol)
    → ((k : ℕ) (ts : List Lexeme) → more ts ≡ false → run s ts (Going n (at k)) ≡ run s ts (Going n out))
    → ((k : ℕ) (ts : List Lexeme) → more ts ≡ true → Comes (run s ts (Going n (at k))) (λ x. run s x.1 (Going n (at (suc k)))) (item k ts))
    → ((k : ℕ) (ts : List Lexeme) (x : A × List Lexeme) → more ts ≡ true → item k ts ≡ Ok x → length x.1 < length ts)
    → (more [] ≡ false)
    → (clock k : ℕ) (ts : List Lexeme) → length ts ≤ clock
    → Comes (run s ts (Going n (at k))) (λ xs. run s xs.1 (Going n out)) (many more item clock k ts)
unfolding many
many_runs s n more item at out ends goes less at_end zero k [] fits = record { eq = ends k [] at_end }
many_runs s n more item at out ends goes less at_end zero k (t ∷ ts) fits = absurd (omega arith)
many_runs s n more item at out ends goes less at_end (suc clock) k ts fits =
    comes_if (more ts)
    (λ e. comes_then (goes k ts e)
    (λ x is. let l = less k ts x e is in let room : length x.1 ≤ clock = omega arith in
    comes_then (many_runs s n more item at out ends goes less at_end clock (suc k) x.1 room) (λ _ _. record { eq = refl })))
    (λ e. record { eq = ends k ts e })

pub row_runs : {A : Type 0} (s : Bool) (n : ℕ) (more : List Lexeme → Bool) (item : ℕ → List Lexeme → Answer A) (at : ℕ → List Symbol) (out : List Symbol)
    → ((k : ℕ) (ts : List Lexeme) → more ts ≡ false → run s ts (Going n (at k)) ≡ run s ts (Going n out))
    → ((k : ℕ) (ts : List Lexeme) → more ts ≡ true → Comes (run s ts (Going n (at k))) (λ x. run s x.1 (Going n (at (suc k)))) (item k ts))
    → ((k : ℕ) (ts : List Lexeme) (x : A × List Lexeme) → more ts ≡ true → item k ts ≡ Ok x → length x.1 < length ts)
    → (more [] ≡ false)
    → (k : ℕ) (ts : List Lexeme) → Comes (run s ts (Going n (at k))) (λ xs. run s xs.1 (Going n out)) (many more item (length ts) k ts)
row_runs s n more item at out ends goes less at_end k ts =
    let fits : length ts ≤ length ts = omega arith in many_runs s n more item at out ends goes less at_end (length ts) k ts fits
