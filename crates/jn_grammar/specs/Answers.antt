-- What reading answers, and reading in a row.
use Rattle.std.specs.Prelude.{ℕ, zero, suc, Bool, true, false, List, [], ◌∷◌, length, Option, Some, None, Result, Ok, Err, if◌then◌else◌}
use Rattle.jn_base.specs.declared.tree.Place.{Place}
use Rattle.jn_base.specs.declared.tree.Named.{Named}
use Rattle.jn_base.specs.declared.refusal.Limit.{Limit}
use Rattle.jn_base.specs.declared.word.Word.{Word}
use Rattle.jn_base.specs.declared.word.Word.TheVariants as word
use Rattle.jn_base.specs.declared.word.Lexeme.{Lexeme}
use Rattle.jn_base.specs.Parts.{Role, named}
use Rattle.jn_base.specs.Spelling.{limit_of}
use Rattle.jn_grammar.specs.declared.fault.Fault.{Fault}
use Rattle.jn_grammar.specs.declared.fault.Fault.TheVariants.{Syntax, Passed}
use Rattle.jn_grammar.specs.Begins.{begins, behind, place}

-- A value and the words after it, or the first fault.
abbrev pub Answer : Type 0 → Type 0
Answer A = Result (A × List Lexeme) Fault

infixl 10 ◌>>=◌
abbrev pub ◌>>=◌ : {A B : Type 0} → Result A Fault → (A → Result B Fault) → Result B Fault
(Ok x) >>= f = f x
(Err e) >>= f = Err e

-- the fault at the first of these words
abbrev pub here : {A : Type 0} → List Lexeme → Answer A
here ts = Err (Syntax (length ts))

-- this word, which has to stand here
abbrev pub expect : Word → List Lexeme → Answer Place
expect w ts = if begins w ts then Ok (place ts, behind ts) else here ts

abbrev pub name_by : Word → Lexeme → List Lexeme → Answer Named
name_by (word.Name x) t ts = Ok (named x t.at, ts)
name_by w t ts = here (t ∷ ts)

abbrev pub name_in : List Lexeme → Answer Named
name_in [] = here []
name_in (t ∷ ts) = name_by t.word t ts

-- The limit that a word passes with what it counts. Where reading isn't strict it passes none but nesting.
abbrev pub passed : Bool → Role → Option Limit
passed true r = limit_of r
passed false r = None

abbrev pub within_by : {A : Type 0} → Option Limit → List Lexeme → Answer A → Answer A
within_by (Some l) ts r = Err (Passed l (length ts))
within_by None ts r = r

-- what is read, unless the first word passes a limit
abbrev pub within : {A : Type 0} → Bool → Role → List Lexeme → Answer A → Answer A
within strict role ts r = within_by (passed strict role) ts r

-- Items as long as `more` says so, the first of them the k-th; the clock is at least the number of words.
unfoldable pub many : {A : Type 0} → (List Lexeme → Bool) → (ℕ → List Lexeme → Answer A) → ℕ → ℕ → List Lexeme → Answer (List A)
many more item zero k ts = Ok ([], ts)
many more item (suc clock) k ts = if more ts then (do
  x ← item k ts
  others ← many more item clock (suc k) x.1
  Ok (x.0 ∷ others.0, others.1)) else Ok ([], ts)

-- as many as there are, from the k-th on
abbrev pub row : {A : Type 0} → (List Lexeme → Bool) → (ℕ → List Lexeme → Answer A) → ℕ → List Lexeme → Answer (List A)
row more item k ts = many more item (length ts) k ts
