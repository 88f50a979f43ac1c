-- What stands at the front of characters, found from left to right. The laws in proofs/ say that it is what the
-- definition of the tokens has there, and nothing else.
use Rattle.std.specs.Prelude.{ℕ, ◌+◌, ◌==◌, ◌&&◌, Bool, true, false, not, List, [], ◌∷◌, take, if◌then◌else◌}
use Rattle.std.specs.Char.{is_ascii_digit}
use Rattle.std.specs.List.{prefix_len}
use Rattle.jn_base.specs.declared.token.TokenKind.TheVariants.{Name, Keyword, Number, Text, Mark}
use Rattle.jn_base.specs.declared.token.LexFault.{LexFault}
use Rattle.jn_base.specs.declared.token.LexFault.TheVariants as fault
use Rattle.jn_base.specs.Tokens.{line_feed, quote, star, slash, backslash, is_blank, begins_name, continues_name, is_keyword, is_good_number, ends_line, is_escape, is_mark, begins_comment}
use Rattle.jn_lexer.specs.declared.front.Flaw.{Flaw}
use Rattle.jn_lexer.specs.declared.front.Flaw.TheVariants as flaw
use Rattle.jn_lexer.specs.declared.front.Piece.{Piece}
use Rattle.jn_lexer.specs.declared.front.Piece.TheVariants.{Gap, Token, Fault}

-- the fault of a flaw at a byte
abbrev pub fault_at : Flaw → ℕ → LexFault
fault_at flaw.BadChar at = fault.BadChar at
fault_at flaw.BadNumber at = fault.BadNumber at
fault_at flaw.OpenComment at = fault.OpenComment at
fault_at flaw.OpenText at = fault.OpenText at

-- how many characters it passes
abbrev pub len_of : Piece → ℕ
len_of (Gap n) = n
len_of (Token k n) = n
len_of (Fault f n) = n

-- a name or keyword of n characters
unfoldable pub word_front : ℕ → List ℕ → Piece
word_front n cs = Token (if is_keyword (take n cs) then Keyword else Name) n

-- n digits
unfoldable pub number_front : ℕ → List ℕ → Piece
number_front n cs = if is_good_number (take n cs) then Token Number n else Fault flaw.BadNumber 0

-- a text, with n characters before these, the last of them a backslash where it says so
unfoldable pub text_front : Bool → ℕ → List ℕ → Piece
text_front false n [] = Fault flaw.OpenText 0
text_front false n (c ∷ cs) =
    if c == quote then Token Text (n + 1)
    else (if ends_line c then Fault flaw.OpenText 0
    else (if c == backslash then text_front true n cs
    else text_front false (n + 1) cs))
text_front true n [] = Fault flaw.BadChar n
text_front true n (c ∷ cs) = if is_escape c then text_front false (n + 2) cs else Fault flaw.BadChar n

-- a comment up to a star and a slash, with n characters before these, the last of them a star where it says so
unfoldable pub long_comment_front : Bool → ℕ → List ℕ → Piece
long_comment_front starred n [] = Fault flaw.OpenComment 0
long_comment_front starred n (c ∷ cs) =
    if starred && c == slash then Gap (n + 1) else long_comment_front (c == star) (n + 1) cs

-- a comment, by the character behind its first slash
unfoldable pub comment_front : List ℕ → Piece
comment_front [] = Fault flaw.BadChar 0
comment_front (c ∷ cs) =
    if c == slash then Gap (prefix_len (λ d. not (d == line_feed)) cs + 2) else long_comment_front false 2 cs

-- a mark of two characters, or else of one
unfoldable pub single_front : ℕ → Piece
single_front c = if is_mark (c ∷ []) then Token Mark 1 else Fault flaw.BadChar 0

unfoldable pub mark_front : List ℕ → Piece
mark_front [] = Fault flaw.BadChar 0
mark_front (c ∷ []) = single_front c
mark_front (c ∷ d ∷ cs) = if is_mark (c ∷ d ∷ []) then Token Mark 2 else single_front c

unfoldable pub front : List ℕ → Piece
front [] = Gap 0
front (c ∷ cs) =
    if is_blank c then Gap 1
    else (if begins_name c then word_front (prefix_len continues_name cs + 1) (c ∷ cs)
    else (if is_ascii_digit c then number_front (prefix_len is_ascii_digit (c ∷ cs)) (c ∷ cs)
    else (if c == quote then text_front false 1 cs
    else (if begins_comment (c ∷ cs) then comment_front cs
    else mark_front (c ∷ cs)))))
