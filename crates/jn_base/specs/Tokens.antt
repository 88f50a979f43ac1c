-- The tokens of a source.
--
-- A source is bytes that are UTF-8, and it is read as characters, each by its number. A token says its
-- sort, the byte where it starts and the byte behind its last one.
use Rattle.std.specs.Prelude.{◌≡◌, ◌≤◌, ◌+◌, ◌*◌, ◌-◌, ◌==◌, ◌||◌, ◌&&◌, ℕ, Bool, true, false, not, nat_le, List, [], ◌∷◌, ◌++◌, length, codes, fold, Option, Some, None}
use Rattle.std.specs.Char.{is_ascii_digit}
use Rattle.std.specs.List.{AllPass, list_any}
use Rattle.std.specs.Str.{encode_utf8_all, all_scalars, bytes_eq}
use Rattle.unicode_ident.specs.Ident.{is_xid_start, is_xid_continue}
use Rattle.jn_base.specs.declared.token.TokenKind.{TokenKind}
use Rattle.jn_base.specs.declared.token.TokenKind.TheVariants.{Name, Keyword, Number, Text, Mark}
use Rattle.jn_base.specs.declared.token.Token.{Token}
use Rattle.jn_base.specs.declared.token.LexFault.{LexFault}
use Rattle.jn_base.specs.declared.token.LexFault.TheVariants.{BadChar, BadNumber, OpenComment, OpenText}

abbrev pub tab : ℕ
tab = 9

abbrev pub line_feed : ℕ
line_feed = 10

abbrev pub carriage_return : ℕ
carriage_return = 13

abbrev pub space : ℕ
space = 32

abbrev pub quote : ℕ
quote = 34

abbrev pub star : ℕ
star = 42

abbrev pub slash : ℕ
slash = 47

abbrev pub zero_digit : ℕ
zero_digit = 48

abbrev pub backslash : ℕ
backslash = 92

abbrev pub underscore : ℕ
underscore = 95

abbrev pub letter_n : ℕ
letter_n = 110

-- how many bytes the characters take
abbrev pub width : List ℕ → ℕ
width cs = length (encode_utf8_all cs)

-- the characters are none, or the first of them fails the test
abbrev pub BeginsWithNo : (ℕ → Bool) → List ℕ → Type 0
BeginsWithNo test [] = Unit {0}
BeginsWithNo test (c ∷ cs) = test c ≡ false

-- White space is space, tab, line feed, carriage return.
abbrev pub is_blank : ℕ → Bool
is_blank c = c == space || c == tab || c == line_feed || c == carriage_return

-- Names and keywords: a first character that is XID_Start or `_`, then XID_Continue characters, as many
-- as follow. One of the keywords is no name.
abbrev pub begins_name : ℕ → Bool
begins_name c = is_xid_start c || c == underscore

abbrev pub continues_name : ℕ → Bool
continues_name c = is_xid_continue c

abbrev pub keywords : List (List ℕ)
keywords = codes "adapts" ∷ codes "boolean" ∷ codes "class" ∷ codes "else" ∷ codes "extends" ∷ codes "false"
    ∷ codes "final" ∷ codes "if" ∷ codes "int" ∷ codes "is" ∷ codes "new" ∷ codes "null" ∷ codes "package"
    ∷ codes "print" ∷ codes "return" ∷ codes "shares" ∷ codes "sharing" ∷ codes "super" ∷ codes "this"
    ∷ codes "true" ∷ codes "view" ∷ codes "void" ∷ codes "while" ∷ []

unfoldable pub is_keyword : List ℕ → Bool
is_keyword w = list_any (bytes_eq w) keywords

-- Numbers: ASCII digits, as many as follow. A number is `0` or has no leading zero, and is at most
-- 9223372036854775807.
abbrev pub digits_value : List ℕ → ℕ
digits_value w = fold (λ value c. 10 * value + (c - zero_digit)) 0 w

abbrev pub greatest_number : ℕ
greatest_number = 9_223_372_036_854_775_807

abbrev pub has_leading_zero : List ℕ → Bool
has_leading_zero [] = false
has_leading_zero (c ∷ []) = false
has_leading_zero (c ∷ d ∷ w) = c == zero_digit

abbrev pub is_good_number : List ℕ → Bool
is_good_number w = not (has_leading_zero w) && nat_le (digits_value w) greatest_number

-- Texts: between two quotes, characters other than a quote, a backslash, a line feed and a carriage return,
-- and the escapes, each a backslash before a quote, a backslash or an n.
abbrev pub ends_line : ℕ → Bool
ends_line c = c == line_feed || c == carriage_return

abbrev pub is_plain : ℕ → Bool
is_plain c = not (c == quote || c == backslash || ends_line c)

abbrev pub is_escape : ℕ → Bool
is_escape c = c == quote || c == backslash || c == letter_n

pub data IsInText : List ℕ → Type 0 where
  no_more : IsInText []
  plain : {c : ℕ} {w : List ℕ} → is_plain c ≡ true → IsInText w → IsInText (c ∷ w)
  escape : {c : ℕ} {w : List ℕ} → is_escape c ≡ true → IsInText w → IsInText (backslash ∷ c ∷ w)

-- Marks, the longest first.
abbrev pub marks : List (List ℕ)
marks = codes "==" ∷ codes "!=" ∷ codes "<=" ∷ codes ">=" ∷ codes "&&" ∷ codes "||" ∷ codes "->"
    ∷ codes "{" ∷ codes "}" ∷ codes "(" ∷ codes ")" ∷ codes "[" ∷ codes "]" ∷ codes "." ∷ codes ","
    ∷ codes ";" ∷ codes "=" ∷ codes "!" ∷ codes "<" ∷ codes ">" ∷ codes "+" ∷ codes "-" ∷ codes "*"
    ∷ codes "/" ∷ codes "%" ∷ codes "&" ∷ codes "\\" ∷ []

unfoldable pub is_mark : List ℕ → Bool
is_mark w = list_any (bytes_eq w) marks

-- A comment begins with `//` or `/*`, where no mark does.
abbrev pub begins_comment : List ℕ → Bool
begins_comment [] = false
begins_comment (c ∷ []) = false
begins_comment (c ∷ d ∷ cs) = c == slash && (d == slash || d == star)

-- no star stands right before a slash
abbrev pub HasNoEnd : List ℕ → Type 0
HasNoEnd [] = Unit {0}
HasNoEnd (c ∷ []) = Unit {0}
HasNoEnd (c ∷ d ∷ cs) = ((c == star && d == slash) ≡ false) × HasNoEnd (d ∷ cs)

-- `IsComment w rest`: in w before the rest stands a comment.
pub data IsComment : List ℕ → List ℕ → Type 0 where
  -- `//` up to a line feed or the end
  to_line_end : {w rest : List ℕ} → AllPass (λ c. not (c == line_feed)) w → BeginsWithNo (λ c. not (c == line_feed)) rest
      → IsComment (slash ∷ slash ∷ w) rest
  -- `/*` up to the first `*/`
  to_end : (w : List ℕ) {rest : List ℕ} → HasNoEnd (w ++ star ∷ []) → IsComment (slash ∷ star ∷ (w ++ star ∷ slash ∷ [])) rest

-- `IsToken k w rest`: in w before the rest stands a token of the sort k, the longest that begins there.
pub data IsToken : TokenKind → List ℕ → List ℕ → Type 0 where
  name : {c : ℕ} {w rest : List ℕ} → begins_name c ≡ true → AllPass continues_name w → BeginsWithNo continues_name rest
      → is_keyword (c ∷ w) ≡ false → IsToken Name (c ∷ w) rest
  keyword : {c : ℕ} {w rest : List ℕ} → begins_name c ≡ true → AllPass continues_name w → BeginsWithNo continues_name rest
      → is_keyword (c ∷ w) ≡ true → IsToken Keyword (c ∷ w) rest
  number : {c : ℕ} {w rest : List ℕ} → AllPass is_ascii_digit (c ∷ w) → BeginsWithNo is_ascii_digit rest
      → is_good_number (c ∷ w) ≡ true → IsToken Number (c ∷ w) rest
  text : {w rest : List ℕ} → IsInText w → IsToken Text (quote ∷ (w ++ quote ∷ [])) rest
  mark : {w rest : List ℕ} → is_mark w ≡ true → begins_comment (w ++ rest) ≡ false
      → ((v others : List ℕ) → is_mark v ≡ true → w ++ rest ≡ v ++ others → length v ≤ length w) → IsToken Mark w rest

-- `IsFault at cs f`: at the front of the characters cs, which is the byte at, stands the fault f.
pub data IsFault : ℕ → List ℕ → LexFault → Type 0 where
  -- a leading zero, or a number too great
  bad_number : {at c : ℕ} (w rest : List ℕ) → AllPass is_ascii_digit (c ∷ w) → BeginsWithNo is_ascii_digit rest
      → is_good_number (c ∷ w) ≡ false → IsFault at (c ∷ (w ++ rest)) (BadNumber at)
  -- `/*` without an end
  open_comment : {at : ℕ} {cs : List ℕ} → HasNoEnd cs → IsFault at (slash ∷ star ∷ cs) (OpenComment at)
  -- a text that meets a line feed, a carriage return or the end
  open_text : {at : ℕ} {w : List ℕ} (rest : List ℕ) → IsInText w → BeginsWithNo (λ c. not (ends_line c)) rest
      → IsFault at (quote ∷ (w ++ rest)) (OpenText at)
  -- a backslash in a text that begins no escape, at the backslash
  bad_escape : {at : ℕ} {w : List ℕ} (rest : List ℕ) → IsInText w → BeginsWithNo is_escape rest
      → IsFault at (quote ∷ (w ++ backslash ∷ rest)) (BadChar (at + width (quote ∷ w)))
  -- any other character
  bad_char : {at c : ℕ} {cs : List ℕ} → is_blank c ≡ false → begins_name c ≡ false → is_ascii_digit c ≡ false
      → (c == quote) ≡ false → ((v others : List ℕ) → is_mark v ≡ true → c ∷ cs ≡ v ++ others → ⊥)
      → IsFault at (c ∷ cs) (BadChar at)

-- `Lexes at cs ts f`: the characters cs, the first of which is the byte at, are the tokens ts with white space
-- and comments between, up to the fault f, the first there, or up to the end.
pub data Lexes : ℕ → List ℕ → List Token → Option LexFault → Type 0 where
  at_end : {at : ℕ} → Lexes at [] [] None
  fault : {at : ℕ} {cs : List ℕ} {f : LexFault} → IsFault at cs f → Lexes at cs [] (Some f)
  blank : {at c : ℕ} {cs : List ℕ} {ts : List Token} {f : Option LexFault} → is_blank c ≡ true
      → Lexes (at + width (c ∷ [])) cs ts f → Lexes at (c ∷ cs) ts f
  comment : {at : ℕ} {w rest : List ℕ} {ts : List Token} {f : Option LexFault} → IsComment w rest
      → Lexes (at + width w) rest ts f → Lexes at (w ++ rest) ts f
  token : {at : ℕ} {k : TokenKind} {w rest : List ℕ} {ts : List Token} {f : Option LexFault} → IsToken k w rest
      → Lexes (at + width w) rest ts f
      → Lexes at (w ++ rest) (record { kind = k; start = at; end = at + width w } ∷ ts) f

-- `TokensOf bytes ts f`: the bytes are UTF-8, and their characters are the tokens ts up to the fault f or the end.
pub record TokensOf (bytes : List ℕ) (ts : List Token) (f : Option LexFault) : Type 0 where
  pub characters : List ℕ
  pub scalars : all_scalars characters ≡ true
  pub spelled : encode_utf8_all characters ≡ bytes
  pub lexed : Lexes 0 characters ts f
