-- The words of a source: its tokens as the grammar sees them, with the end of the file or the first fault behind.
use Rattle.std.specs.Prelude.{◌≡◌, ℕ, ◌+◌, ◌-◌, ◌<◌, pos, true, List, [], ◌∷◌, ◌++◌, Option, Some, None, length, take, drop, codes, slice_get}
use Rattle.std.specs.List.{filter_map}
use Rattle.jn_base.specs.declared.token.Token.{Token}
use Rattle.jn_base.specs.declared.token.TokenKind.{TokenKind}
use Rattle.jn_base.specs.declared.token.TokenKind.TheVariants as sort
use Rattle.jn_base.specs.declared.token.LexFault.{LexFault}
use Rattle.jn_base.specs.declared.token.LexFault.TheVariants as fault
use Rattle.jn_base.specs.declared.tree.Text.{Text}
use Rattle.jn_base.specs.declared.tree.Place.{Place}
use Rattle.jn_base.specs.declared.word.Keyword.{Keyword}
use Rattle.jn_base.specs.declared.word.Keyword.TheVariants as keyword
use Rattle.jn_base.specs.declared.word.Mark.{Mark}
use Rattle.jn_base.specs.declared.word.Mark.TheVariants as mark
use Rattle.jn_base.specs.declared.word.Word.{Word}
use Rattle.jn_base.specs.declared.word.Word.TheVariants as word
use Rattle.jn_base.specs.declared.word.Lexeme.{Lexeme}
use Rattle.jn_base.specs.Places.{place_of}
use Rattle.jn_base.specs.Tokens.{quote, backslash, line_feed, letter_n, is_plain, digits_value, TokensOf}

-- how the keywords and the marks are spelled
abbrev pub keyword_text : Keyword → List ℕ
keyword_text keyword.Adapts = codes "adapts"
keyword_text keyword.Boolean = codes "boolean"
keyword_text keyword.Class = codes "class"
keyword_text keyword.Else = codes "else"
keyword_text keyword.Extends = codes "extends"
keyword_text keyword.False = codes "false"
keyword_text keyword.Final = codes "final"
keyword_text keyword.If = codes "if"
keyword_text keyword.Int = codes "int"
keyword_text keyword.Is = codes "is"
keyword_text keyword.New = codes "new"
keyword_text keyword.Null = codes "null"
keyword_text keyword.Package = codes "package"
keyword_text keyword.Print = codes "print"
keyword_text keyword.Return = codes "return"
keyword_text keyword.Shares = codes "shares"
keyword_text keyword.Sharing = codes "sharing"
keyword_text keyword.Super = codes "super"
keyword_text keyword.This = codes "this"
keyword_text keyword.True = codes "true"
keyword_text keyword.View = codes "view"
keyword_text keyword.Void = codes "void"
keyword_text keyword.While = codes "while"

abbrev pub mark_text : Mark → List ℕ
mark_text mark.EqualEqual = codes "=="
mark_text mark.NotEqual = codes "!="
mark_text mark.LessEqual = codes "<="
mark_text mark.GreaterEqual = codes ">="
mark_text mark.AndAnd = codes "&&"
mark_text mark.OrOr = codes "||"
mark_text mark.Arrow = codes "->"
mark_text mark.OpenBrace = codes "{"
mark_text mark.CloseBrace = codes "}"
mark_text mark.OpenParen = codes "("
mark_text mark.CloseParen = codes ")"
mark_text mark.OpenBracket = codes "["
mark_text mark.CloseBracket = codes "]"
mark_text mark.Dot = codes "."
mark_text mark.Comma = codes ","
mark_text mark.Semicolon = codes ";"
mark_text mark.Equals = codes "="
mark_text mark.Bang = codes "!"
mark_text mark.Less = codes "<"
mark_text mark.Greater = codes ">"
mark_text mark.Plus = codes "+"
mark_text mark.Minus = codes "-"
mark_text mark.Star = codes "*"
mark_text mark.Slash = codes "/"
mark_text mark.Percent = codes "%"
mark_text mark.Ampersand = codes "&"
mark_text mark.Backslash = codes "\\"

-- the text of a token: its slice of the bytes
abbrev pub text_of : List ℕ → Token → List ℕ
text_of bytes t = take (t.end - t.start) (drop t.start bytes)

-- `Reads w text`: what stands between the quotes reads as this text. An escape reads as the character that it is for.
pub data Reads : List ℕ → List ℕ → Type 0 where
  nothing : Reads [] []
  plain : {c : ℕ} {w text : List ℕ} → is_plain c ≡ true → Reads w text → Reads (c ∷ w) (c ∷ text)
  escaped_quote : {w text : List ℕ} → Reads w text → Reads (backslash ∷ quote ∷ w) (quote ∷ text)
  escaped_backslash : {w text : List ℕ} → Reads w text → Reads (backslash ∷ backslash ∷ w) (backslash ∷ text)
  escaped_line_feed : {w text : List ℕ} → Reads w text → Reads (backslash ∷ letter_n ∷ w) (line_feed ∷ text)

abbrev pub text : List ℕ → Text
text bytes = record { bytes = bytes }

abbrev pub lexeme : Word → Place → Lexeme
lexeme x at = record { word = x; at = at }

-- `IsWord names texts k w x`: a token of the sort k with the text w is the word x, where names and texts are those of
-- the program by their numbers.
pub data IsWord (names texts : List Text) : TokenKind → List ℕ → Word → Type 0 where
  a_name : {n : ℕ} {w : List ℕ} → slice_get names n ≡ Some (text w) → IsWord names texts sort.Name w (word.Name (record { 0 = n }))
  a_keyword : (k : Keyword) → IsWord names texts sort.Keyword (keyword_text k) (word.Keyword k)
  a_number : {w : List ℕ} → IsWord names texts sort.Number w (word.Number (pos (digits_value w)))
  a_text : {n : ℕ} {w read : List ℕ} → Reads w read → slice_get texts n ≡ Some (text read)
      → IsWord names texts sort.Text (quote ∷ (w ++ quote ∷ [])) (word.Text n)
  a_mark : (m : Mark) → IsWord names texts sort.Mark (mark_text m) (word.Mark m)

-- `AreWords bytes names texts ts ws`: the tokens of the bytes are these words, each where its token starts.
pub data AreWords (bytes : List ℕ) (names texts : List Text) : List Token → List Lexeme → Type 0 where
  no_word : AreWords bytes names texts [] []
  then_word : {t : Token} {ts : List Token} {x : Word} {ws : List Lexeme} → IsWord names texts t.kind (text_of bytes t) x
      → AreWords bytes names texts ts ws → AreWords bytes names texts (t ∷ ts) (lexeme x (place_of bytes t.start) ∷ ws)

-- the numbers of the names, and of the texts, in the order of the words
abbrev pub name_number : Word → Option ℕ
name_number (word.Name n) = Some n.0
name_number (word.Keyword k) = None
name_number (word.Number n) = None
name_number (word.Text n) = None
name_number (word.Mark m) = None
name_number word.End = None
name_number word.Fault = None

abbrev pub text_number : Word → Option ℕ
text_number (word.Name n) = None
text_number (word.Keyword k) = None
text_number (word.Number n) = None
text_number (word.Text n) = Some n
text_number (word.Mark m) = None
text_number word.End = None
text_number word.Fault = None

-- `AreByMention from numbers to`: each of the numbers is one below those that were mentioned, or else the next one;
-- `from` were mentioned before, and `to` with all of these.
pub data AreByMention : ℕ → List ℕ → ℕ → Type 0 where
  all_mentioned : {from : ℕ} → AreByMention from [] from
  again : {from to n : ℕ} {ns : List ℕ} → n < from → AreByMention from ns to → AreByMention from (n ∷ ns) to
  first : {from to : ℕ} {ns : List ℕ} → AreByMention (from + 1) ns to → AreByMention from (from ∷ ns) to

-- Numbered by first mention: equal ones have one number, and each of the table is mentioned.
pub record AreNumbered (table : List Text) (numbers : List ℕ) : Type 0 where
  pub one_number : (m n : ℕ) (t : Text) → slice_get table m ≡ Some t → slice_get table n ≡ Some t → m ≡ n
  pub by_mention : AreByMention 0 numbers (length table)

-- The bytes of a fault.
abbrev pub byte_of : LexFault → ℕ
byte_of (fault.BadChar at) = at
byte_of (fault.BadNumber at) = at
byte_of (fault.OpenComment at) = at
byte_of (fault.OpenText at) = at
byte_of fault.Memory = 0

-- what stands behind the tokens: the end of the file behind the last byte, or the first fault at its byte
abbrev pub last_word : List ℕ → Option LexFault → Lexeme
last_word bytes None = lexeme word.End (place_of bytes (length bytes))
last_word bytes (Some f) = lexeme word.Fault (place_of bytes (byte_of f))

-- `AreWordsOf bytes names texts ws`: the words of the bytes, which are UTF-8, are ws.
pub record AreWordsOf (bytes : List ℕ) (names texts : List Text) (ws : List Lexeme) : Type 0 where
  pub tokens : List Token
  pub fault : Option LexFault
  pub lexed : TokensOf bytes tokens fault
  pub words : List Lexeme
  pub are_words : AreWords bytes names texts tokens words
  pub whole : ws ≡ words ++ last_word bytes fault ∷ []
  pub names_numbered : AreNumbered names (filter_map (λ (w : Lexeme). name_number w.word) words)
  pub texts_numbered : AreNumbered texts (filter_map (λ (w : Lexeme). text_number w.word) words)
