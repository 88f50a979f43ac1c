-- The programs of sources, and steps 1 to 3 of the verdict: what is refused of a source's text and words.
use Rattle.std.specs.Prelude.{◌≡◌, ◌≤◌, ◌<◌, ℕ, suc, nat_lt, List, [], ◌∷◌, ◌++◌, Option, Some, None, All, Contains, length, map, slice_get, if◌then◌else◌}
use Rattle.std.specs.Str.{IsValidUpTo}
use Rattle.jn_base.specs.declared.tree.Decl.{Decl}
use Rattle.jn_base.specs.declared.tree.Place.{Place}
use Rattle.jn_base.specs.declared.tree.Program.{Program}
use Rattle.jn_base.specs.declared.tree.Text.{Text}
use Rattle.jn_base.specs.declared.refusal.Limit.{Limit}
use Rattle.jn_base.specs.declared.refusal.Limit.TheVariants as limit
use Rattle.jn_base.specs.declared.refusal.Refusal.{Refusal}
use Rattle.jn_base.specs.declared.refusal.Rule.{Rule}
use Rattle.jn_base.specs.declared.refusal.Rule.TheVariants.{E01, E02, E03, E04}
use Rattle.jn_base.specs.declared.word.Word.{Word}
use Rattle.jn_base.specs.declared.word.Word.TheVariants as word
use Rattle.jn_base.specs.declared.word.Mark.TheVariants.{Backslash}
use Rattle.jn_base.specs.declared.word.Lexeme.{Lexeme}
use Rattle.jn_base.specs.Limits.{greatest}
use Rattle.jn_base.specs.Places.{place_of}
use Rattle.jn_base.specs.Words.{name_number, AreWordsOf}
use Rattle.jn_base.specs.Parts.{Role, Plain, Opens, Declares, Parameter, Local, Atom, Part, lexeme_of}
use Rattle.jn_base.specs.GrammarDecl.{IsProgram}

-- `SourceSpells p bytes`: the words of the bytes are an instance of the grammar with the tree of p, places and all.
pub record SourceSpells (p : Program) (bytes : List ℕ) : Type 0 where
  pub parts : List Part
  pub are_words : AreWordsOf bytes p.names p.texts (map lexeme_of parts)
  pub is_program : IsProgram parts p.decls

-- `Begins ws`: the words of some program begin with these. `BeginsWith ts` says so of words with what they count.
pub record BeginsWith (ts : List Part) : Type 0 where
  pub others : List Part
  pub decls : List Decl
  pub is_program : IsProgram (ts ++ others) decls

pub record Begins (ws : List Lexeme) : Type 0 where
  pub parts : List Part
  pub are_words : map lexeme_of parts ≡ ws
  pub begins : BeginsWith parts

-- the limit, where the count is over its greatest number
abbrev pub over : Limit → ℕ → Option Limit
over l n = if nat_lt (greatest l) n then Some l else None

-- The limits that the grammar counts.
abbrev pub limit_of : Role → Option Limit
limit_of Plain = None
limit_of (Declares n) = over limit.Declarations n
limit_of (Opens n) = over limit.Nesting n
limit_of (Parameter n) = over limit.Parameters n
limit_of (Local n) = over limit.Locals n
limit_of (Atom n) = over limit.Atoms n

abbrev pub mask_then : Word → Option ℕ → List ℕ → List ℕ
mask_then (word.Mark Backslash) (Some n) ns = n ∷ ns
mask_then w n ns = ns

-- the numbers of the names of masks: those behind a backslash
abbrev pub mask_numbers : List Lexeme → List ℕ
mask_numbers [] = []
mask_numbers (w ∷ []) = []
mask_numbers (w ∷ v ∷ ws) = mask_then w.word (name_number v.word) (mask_numbers (v ∷ ws))

-- among the numbers stand this many different ones
pub record HasDifferent (count : ℕ) (numbers : List ℕ) : Type 0 where
  pub picked : List ℕ
  pub are : length picked ≡ count
  pub different : (i j n : ℕ) → slice_get picked i ≡ Some n → slice_get picked j ≡ Some n → i ≡ j
  pub among : All (λ n. Contains numbers n) picked

-- `Passes front t l`: behind the words front, the word t passes the limit l.
pub data Passes (front : List Lexeme) (t : Lexeme) : Limit → Type 0 where
  -- by the grammar, in a program that begins so
  counted : (ts : List Part) (p : Part) {l : Limit} → map lexeme_of ts ≡ front → lexeme_of p ≡ t → BeginsWith (ts ++ p ∷ [])
      → limit_of p.role ≡ Some l → Passes front t l
  -- the 257th different name of a mask
  masks : HasDifferent (suc (greatest limit.Masks)) (mask_numbers (front ++ t ∷ []))
      → (HasDifferent (suc (greatest limit.Masks)) (mask_numbers front) → ⊥) → Passes front t limit.Masks
  -- the 65,536th name, and each after it: they are numbered from 0
  names : (n : ℕ) → name_number t.word ≡ Some n → greatest limit.Names ≤ n → Passes front t limit.Names

-- Of two limits that one word passes, the first here counts. The last two are no limits of words.
abbrev pub rank : Limit → ℕ
rank limit.Declarations = 0
rank limit.Nesting = 1
rank limit.Parameters = 2
rank limit.Locals = 3
rank limit.Atoms = 4
rank limit.Masks = 5
rank limit.Names = 6
rank limit.Entries = 7
rank limit.Slots = 8

pub record IsFirstPassed (front : List Lexeme) (t : Lexeme) (l : Limit) : Type 0 where
  pub passes : Passes front t l
  pub first : (m : Limit) → Passes front t m → rank l ≤ rank m

-- With the word t behind front a program begins, and it passes no limit.
pub record IsClean (front : List Lexeme) (t : Lexeme) : Type 0 where
  pub begins : Begins (front ++ t ∷ [])
  pub within : (l : Limit) → Passes front t l → ⊥

-- Syntax stands at the first word with which no program begins, a limit at the word that passes it. At one word syntax
-- comes first.
pub data IsRefusedAt (front : List Lexeme) (t : Lexeme) : Rule → Option Limit → Type 0 where
  syntax_fault : (Begins (front ++ t ∷ []) → ⊥) → IsRefusedAt front t E01 None
  limit_passed : {l : Limit} → Begins (front ++ t ∷ []) → IsFirstPassed front t l → IsRefusedAt front t E04 (Some l)

-- The first word that is refused.
pub record IsFirstRefused (ws : List Lexeme) (r : Rule) (at : Place) (l : Option Limit) : Type 0 where
  pub front : List Lexeme
  pub word_there : Lexeme
  pub others : List Lexeme
  pub split : ws ≡ front ++ word_there ∷ others
  pub clean : (before behind : List Lexeme) (t : Lexeme) → front ≡ before ++ t ∷ behind → IsClean before t
  pub refused : IsRefusedAt front word_there r l
  pub place : at ≡ word_there.at

abbrev pub refusal : Rule → Place → Option Limit → Refusal
refusal r at l = record { rule = r; at = at; class = None; member = None; limit = l }

abbrev pub greatest_source : ℕ
greatest_source = 1_048_576

-- `IsTextRefused bytes r`: the first three steps of the verdict refuse the source by r. More than 1,048,576 bytes come
-- before a sequence that is no UTF-8, and that before syntax and limits.
pub data IsTextRefused : List ℕ → Refusal → Type 0 where
  too_long : {bytes : List ℕ} → greatest_source < length bytes → IsTextRefused bytes (refusal E02 (record { line = 1; column = 1 }) None)
  not_utf8 : {bytes : List ℕ} {n : ℕ} → length bytes ≤ greatest_source → IsValidUpTo bytes n
      → IsTextRefused bytes (refusal E03 (place_of bytes n) None)
  word_refused : {bytes : List ℕ} (names texts : List Text) {ws : List Lexeme} {r : Rule} {at : Place} {l : Option Limit}
      → length bytes ≤ greatest_source → AreWordsOf bytes names texts ws → IsFirstRefused ws r at l
      → IsTextRefused bytes (refusal r at l)

-- `IsTextOf p bytes`: the source is that of the program p, and none of the first three steps refuses it.
pub record IsTextOf (p : Program) (bytes : List ℕ) : Type 0 where
  pub spelled : SourceSpells p bytes
  pub not_refused : (r : Refusal) → IsTextRefused bytes r → ⊥
