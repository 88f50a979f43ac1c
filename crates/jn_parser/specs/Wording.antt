-- How tokens become words: numbers of names and texts, and what a token's text is by its sort.
use Rattle.std.specs.Prelude.{◌≡◌, ℕ, ◌≤◌, ◌==◌, pos, Bool, true, false, List, [], ◌∷◌, ◌++◌, length, map, slice_get, Some, if◌then◌else◌}
use Rattle.std.specs.Char.{is_ascii_digit}
use Rattle.std.specs.List.{AllPass, filter_map}
use Rattle.jn_base.specs.declared.token.Token.{Token}
use Rattle.jn_base.specs.declared.token.TokenKind.{TokenKind}
use Rattle.jn_base.specs.declared.token.TokenKind.TheVariants as sort
use Rattle.jn_base.specs.declared.tree.Text.{Text}
use Rattle.jn_base.specs.declared.word.Keyword.{Keyword}
use Rattle.jn_base.specs.declared.word.Mark.{Mark}
use Rattle.jn_base.specs.declared.word.Word.{Word}
use Rattle.jn_base.specs.declared.word.Word.TheVariants as word
use Rattle.jn_base.specs.declared.word.Lexeme.{Lexeme}
use Rattle.jn_base.specs.Tokens.{quote, backslash, letter_n, line_feed, digits_value, greatest_number, IsInText}
use Rattle.jn_base.specs.Words.{keyword_text, mark_text, text_of, text, name_number, text_number, AreWords, AreNumbered}

-- `Numbers old w new n`: in the table old the bytes w have the number n, or they get it, behind all others; new is the
-- table then.
pub data Numbers (old : List (List ℕ)) (w : List ℕ) : List (List ℕ) → ℕ → Type 0 where
  known : {n : ℕ} → slice_get old n ≡ Some w → Numbers old w old n
  fresh : ((m : ℕ) → slice_get old m ≡ Some w → ⊥) → Numbers old w (old ++ w ∷ []) (length old)

-- what an escape is for, by the character behind its backslash
abbrev pub escaped : ℕ → ℕ
escaped c = if c == letter_n then line_feed else c

-- What a text reads as, from its first character on, or from the one behind a backslash on.
abbrev pub unescaped : Bool → List ℕ → List ℕ
unescaped after [] = []
unescaped true (c ∷ w) = escaped c ∷ unescaped false w
unescaped false (c ∷ w) = if c == backslash then unescaped true w else c ∷ unescaped false w

-- digits of a number that is not too great
pub record IsDigits (w : List ℕ) : Type 0 where
  pub digits : AllPass is_ascii_digit w
  pub within : digits_value w ≤ greatest_number

-- a quote, what stands between the quotes, and a quote
pub record IsQuoted (w : List ℕ) : Type 0 where
  pub inner : List ℕ
  pub quoted : w ≡ quote ∷ (inner ++ quote ∷ [])
  pub in_text : IsInText inner

-- what a token's text is, by its sort
abbrev pub IsTextFor : TokenKind → List ℕ → Type 0
IsTextFor sort.Name w = Unit {0}
IsTextFor sort.Keyword w = (k : Keyword) × (w ≡ keyword_text k)
IsTextFor sort.Number w = IsDigits w
IsTextFor sort.Text w = IsQuoted w
IsTextFor sort.Mark w = (m : Mark) × (w ≡ mark_text m)

-- so for all tokens of the bytes
abbrev pub HaveTexts : List ℕ → List Token → Type 0
HaveTexts bytes [] = Unit {0}
HaveTexts bytes (t ∷ ts) = IsTextFor t.kind (text_of bytes t) × HaveTexts bytes ts

-- `Mentions names texts k w x names' texts'`: a token of the sort k with the text w is the word x; the tables then are
-- the last two.
pub data Mentions (names texts : List (List ℕ)) : TokenKind → List ℕ → Word → List (List ℕ) → List (List ℕ) → Type 0 where
  a_name : {w : List ℕ} {n : ℕ} {more : List (List ℕ)} → Numbers names w more n → Mentions names texts sort.Name w (word.Name (record { 0 = n })) more texts
  a_keyword : (k : Keyword) → Mentions names texts sort.Keyword (keyword_text k) (word.Keyword k) names texts
  a_number : {w : List ℕ} → Mentions names texts sort.Number w (word.Number (pos (digits_value w))) names texts
  a_text : (w : List ℕ) {n : ℕ} {more : List (List ℕ)} → Numbers texts (unescaped false w) more n
      → Mentions names texts sort.Text (quote ∷ (w ++ quote ∷ [])) (word.Text n) names more
  a_mark : (m : Mark) → Mentions names texts sort.Mark (mark_text m) (word.Mark m) names texts

-- as the tables of a program
abbrev pub table : List (List ℕ) → List Text
table ws = map text ws

-- The words so far, with the names and texts that they mention.
pub record AreSoFar (bytes : List ℕ) (done : List Token) (words : List Lexeme) (names texts : List (List ℕ)) : Type 0 where
  pub are_words : AreWords bytes (table names) (table texts) done words
  pub names_numbered : AreNumbered (table names) (filter_map (λ (w : Lexeme). name_number w.word) words)
  pub texts_numbered : AreNumbered (table texts) (filter_map (λ (w : Lexeme). text_number w.word) words)
