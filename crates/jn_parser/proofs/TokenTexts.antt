-- What the texts of tokens are, as bytes.
use Rattle.std.proofs.Common.{◌≡◌, ℕ, suc, ◌+◌, ◌-◌, ◌<◌, ◌≤◌, Bool, true, false, not, ◌||◌, ◌&&◌, List, [], ◌∷◌, ◌++◌, length, take, drop, map, get_or, Option, refl, sym, ◌∙◌, ap, subst, arith, append_assoc, length-append}
use Rattle.std.specs.Prelude.{nat_lt, nat_le}
use Rattle.std.specs.Char.{is_ascii_digit, encode_utf8}
use Rattle.std.specs.List.{AllPass, list_any, list_all}
use Rattle.std.specs.Str.{bytes_eq, encode_utf8_all}
use Rattle.std.proofs.lemmas.Bool.Decides.{nat_tests}
use Rattle.std.proofs.lemmas.Slice.Eq.{bytes_eq-Decides}
use Rattle.std.proofs.lemmas.Str.{encode_ascii, encodes-append, inside_one}
use Rattle.std.proofs.lemmas.List.{append-nil}
use Rattle.std.proofs.Math.Seq.{take-append_seam, drop-append_seam}
use Rattle.jn_base.specs.declared.token.Token.{Token}
use Rattle.jn_base.specs.declared.token.TokenKind.{TokenKind}
use Rattle.jn_base.specs.declared.token.LexFault.{LexFault}
use Rattle.jn_base.specs.declared.word.Keyword.{Keyword}
use Rattle.jn_base.specs.declared.word.Keyword.TheVariants as keyword_
use Rattle.jn_base.specs.declared.word.Mark.{Mark}
use Rattle.jn_base.specs.declared.word.Mark.TheVariants as mark_
use Rattle.jn_base.specs.Tokens.{quote, backslash, is_plain, is_escape, is_keyword, is_mark, is_good_number, has_leading_zero, digits_value, greatest_number, width, IsInText, no_more, plain, escape, IsToken, name, keyword, number, text, mark, Lexes, at_end, fault, blank, comment, token, TokensOf}
use Rattle.jn_base.specs.Words.{keyword_text, mark_text, text_of}
use Rattle.jn_parser.specs.Wording.{IsDigits, IsTextFor, HaveTexts}

-- ---- characters of ASCII

same_bytes : (w : List ℕ) → list_all (λ c. nat_lt c 128) w ≡ true → encode_utf8_all w ≡ w
same_bytes [] h = refl
same_bytes (c ∷ w) h = by_test (nat_lt c 128) refl h (λ k. same_bytes w k)
  where
    by_test : (b : Bool) → nat_lt c 128 ≡ b → (b && list_all (λ d. nat_lt d 128) w) ≡ true → (list_all (λ d. nat_lt d 128) w ≡ true → encode_utf8_all w ≡ w) → encode_utf8_all (c ∷ w) ≡ c ∷ w
    by_test true e k r = let less : c < 128 = grind (arith, nat_tests) in ap (λ (v : List ℕ). v ++ encode_utf8_all w) (encode_ascii c less) ∙ ap (λ (v : List ℕ). c ∷ v) (r k)
    by_test false e k r = cc

-- ---- keywords and marks

-- the text of one of these
among : {K : Type 0} (shown : K → List ℕ) (ks : List K) (w : List ℕ) → list_any (bytes_eq w) (map shown ks) ≡ true → (k : K) × (w ≡ shown k)
among shown [] w h = cc
among {K} shown (k ∷ ks) w h = by_test (bytes_eq w (shown k)) refl h (λ o. among shown ks w o)
  where
    by_test : (b : Bool) → bytes_eq w (shown k) ≡ b → (b || list_any (bytes_eq w) (map shown ks)) ≡ true → (list_any (bytes_eq w) (map shown ks) ≡ true → (k : K) × (w ≡ shown k)) → (k : K) × (w ≡ shown k)
    by_test true e h r = (k, (bytes_eq-Decides w (shown k)).0 e)
    by_test false e h r = r h

pub all_keywords : List Keyword
all_keywords = keyword_.Adapts ∷ keyword_.Boolean ∷ keyword_.Class ∷ keyword_.Else ∷ keyword_.Extends ∷ keyword_.False ∷ keyword_.Final ∷ keyword_.If
    ∷ keyword_.Int ∷ keyword_.Is ∷ keyword_.New ∷ keyword_.Null ∷ keyword_.Package ∷ keyword_.Print ∷ keyword_.Return ∷ keyword_.Shares ∷ keyword_.Sharing
    ∷ keyword_.Super ∷ keyword_.This ∷ keyword_.True ∷ keyword_.View ∷ keyword_.Void ∷ keyword_.While ∷ []

keyword_small : (k : Keyword) → list_all (λ c. nat_lt c 128) (keyword_text k) ≡ true
keyword_small keyword_.Adapts = refl
keyword_small keyword_.Boolean = refl
keyword_small keyword_.Class = refl
keyword_small keyword_.Else = refl
keyword_small keyword_.Extends = refl
keyword_small keyword_.False = refl
keyword_small keyword_.Final = refl
keyword_small keyword_.If = refl
keyword_small keyword_.Int = refl
keyword_small keyword_.Is = refl
keyword_small keyword_.New = refl
keyword_small keyword_.Null = refl
keyword_small keyword_.Package = refl
keyword_small keyword_.Print = refl
keyword_small keyword_.Return = refl
keyword_small keyword_.Shares = refl
keyword_small keyword_.Sharing = refl
keyword_small keyword_.Super = refl
keyword_small keyword_.This = refl
keyword_small keyword_.True = refl
keyword_small keyword_.View = refl
keyword_small keyword_.Void = refl
keyword_small keyword_.While = refl

keyword_is : (w : List ℕ) → is_keyword w ≡ true → (k : Keyword) × (encode_utf8_all w ≡ keyword_text k)
unfolding is_keyword all_keywords
keyword_is w h = let found = among keyword_text all_keywords w h in
    (found.0, ap encode_utf8_all found.1 ∙ same_bytes (keyword_text found.0) (keyword_small found.0))

all_marks : List Mark
all_marks = mark_.EqualEqual ∷ mark_.NotEqual ∷ mark_.LessEqual ∷ mark_.GreaterEqual ∷ mark_.AndAnd ∷ mark_.OrOr ∷ mark_.Arrow ∷ mark_.OpenBrace
    ∷ mark_.CloseBrace ∷ mark_.OpenParen ∷ mark_.CloseParen ∷ mark_.OpenBracket ∷ mark_.CloseBracket ∷ mark_.Dot ∷ mark_.Comma ∷ mark_.Semicolon
    ∷ mark_.Equals ∷ mark_.Bang ∷ mark_.Less ∷ mark_.Greater ∷ mark_.Plus ∷ mark_.Minus ∷ mark_.Star ∷ mark_.Slash ∷ mark_.Percent ∷ mark_.Ampersand
    ∷ mark_.Backslash ∷ []

mark_small : (m : Mark) → list_all (λ c. nat_lt c 128) (mark_text m) ≡ true
mark_small mark_.EqualEqual = refl
mark_small mark_.NotEqual = refl
mark_small mark_.LessEqual = refl
mark_small mark_.GreaterEqual = refl
mark_small mark_.AndAnd = refl
mark_small mark_.OrOr = refl
mark_small mark_.Arrow = refl
mark_small mark_.OpenBrace = refl
mark_small mark_.CloseBrace = refl
mark_small mark_.OpenParen = refl
mark_small mark_.CloseParen = refl
mark_small mark_.OpenBracket = refl
mark_small mark_.CloseBracket = refl
mark_small mark_.Dot = refl
mark_small mark_.Comma = refl
mark_small mark_.Semicolon = refl
mark_small mark_.Equals = refl
mark_small mark_.Bang = refl
mark_small mark_.Less = refl
mark_small mark_.Greater = refl
mark_small mark_.Plus = refl
mark_small mark_.Minus = refl
mark_small mark_.Star = refl
mark_small mark_.Slash = refl
mark_small mark_.Percent = refl
mark_small mark_.Ampersand = refl
mark_small mark_.Backslash = refl

mark_is : (w : List ℕ) → is_mark w ≡ true → (m : Mark) × (encode_utf8_all w ≡ mark_text m)
unfolding is_mark all_marks
mark_is w h = let found = among mark_text all_marks w h in
    (found.0, ap encode_utf8_all found.1 ∙ same_bytes (mark_text found.0) (mark_small found.0))

-- ---- numbers

all_small : (w : List ℕ) → AllPass is_ascii_digit w → list_all (λ c. nat_lt c 128) w ≡ true
all_small [] h = refl
all_small (c ∷ w) h =
    let digit : is_ascii_digit c ≡ true = h 0 c (omega arith) in
    let less : nat_lt c 128 ≡ true = grind (arith, nat_tests) in
    ap (λ (b : Bool). b && list_all (λ d. nat_lt d 128) w) less ∙ all_small w (λ k d l. h (suc k) d (omega arith))

digits_are : (w : List ℕ) → AllPass is_ascii_digit w → is_good_number w ≡ true → IsDigits (encode_utf8_all w)
digits_are w h g = subst IsDigits (sym (same_bytes w (all_small w h))) (record { digits = h; within = by_tests (has_leading_zero w) (nat_le (digits_value w) greatest_number) refl g })
  where
    by_tests : (z b : Bool) → nat_le (digits_value w) greatest_number ≡ b → (not z && b) ≡ true → digits_value w ≤ greatest_number
    by_tests true b e k = cc
    by_tests false true e k = grind (arith, nat_tests)
    by_tests false false e k = cc

-- ---- texts

plain_high : (b : ℕ) → 128 ≤ b → is_plain b ≡ true
plain_high b h = grind (arith, nat_tests)

plain_bytes : (bs w : List ℕ) → ((k : ℕ) → k < length bs → is_plain (get_or bs k 0) ≡ true) → IsInText w → IsInText (bs ++ w)
plain_bytes [] w h d = d
plain_bytes (b ∷ bs) w h d = plain (h 0 (omega arith)) (plain_bytes bs w (λ k l. h (suc k) (omega arith)) d)

char_plain : (c : ℕ) → is_plain c ≡ true → (k : ℕ) → k < length (encode_utf8 c) → is_plain (get_or (encode_utf8 c) k 0) ≡ true
char_plain c h k l = by_test (nat_lt (get_or (encode_utf8 c) k 0) 128) refl
  where
    by_test : (b : Bool) → nat_lt (get_or (encode_utf8 c) k 0) 128 ≡ b → is_plain (get_or (encode_utf8 c) k 0) ≡ true
    by_test true e =
        let less : get_or (encode_utf8 c) k 0 < 128 = grind (arith, nat_tests) in
        ap is_plain (sym (inside_one c [] (encode_utf8 c) k (sym (append-nil (encode_utf8 c))) l less)) ∙ h
    by_test false e = let more : 128 ≤ get_or (encode_utf8 c) k 0 = grind (arith, nat_tests) in plain_high _ more

escape_small : (c : ℕ) → is_escape c ≡ true → c < 128
escape_small c h = grind (arith, nat_tests)

in_text_bytes : {w : List ℕ} → IsInText w → IsInText (encode_utf8_all w)
in_text_bytes no_more = no_more
in_text_bytes (plain {c = c} {w = w} h d) = plain_bytes (encode_utf8 c) (encode_utf8_all w) (char_plain c h) (in_text_bytes d)
in_text_bytes (escape {c = c} {w = w} h d) =
    let less = escape_small c h in
    subst (λ (v : List ℕ). IsInText v) (sym (ap (λ (v : List ℕ). v ++ (encode_utf8 c ++ encode_utf8_all w)) (encode_ascii backslash (omega arith)) ∙ ap (λ (v : List ℕ). backslash ∷ (v ++ encode_utf8_all w)) (encode_ascii c less)))
    (escape h (in_text_bytes d))

quoted_bytes : (w : List ℕ) → encode_utf8_all (quote ∷ (w ++ quote ∷ [])) ≡ quote ∷ (encode_utf8_all w ++ quote ∷ [])
quoted_bytes w =
    ap (λ (v : List ℕ). v ++ encode_utf8_all (w ++ quote ∷ [])) (encode_ascii quote (omega arith))
    ∙ ap (λ (v : List ℕ). quote ∷ v) (encodes-append w (quote ∷ []) ∙ ap (λ (v : List ℕ). encode_utf8_all w ++ v) (same_bytes (quote ∷ []) refl))

-- ---- tokens

token_text : {k : TokenKind} {w rest : List ℕ} → IsToken k w rest → IsTextFor k (encode_utf8_all w)
token_text (name b a s e) = tt
token_text (keyword {c = c} {w = w} b a s e) = keyword_is (c ∷ w) e
token_text (number {c = c} {w = w} a s e) = digits_are (c ∷ w) a e
token_text (text {w = w} d) = record { inner = encode_utf8_all w; quoted = quoted_bytes w; in_text = in_text_bytes d }
token_text (mark {w = w} m b l) = mark_is w m

abbrev lexed : TokenKind → ℕ → ℕ → Token
lexed k start end = record { kind = k; start = start; end = end }

slice_is : (front : List ℕ) (w rest : List ℕ) (at : ℕ) (k : TokenKind) → length front ≡ at
    → text_of (front ++ (w ++ rest)) (lexed k at (at + length w)) ≡ w
slice_is front w rest at k e =
    let len : at + length w - at ≡ length w = omega arith in
    ap (λ n. take n (drop at (front ++ (w ++ rest)))) len ∙ ap (λ n. take (length w) (drop n (front ++ (w ++ rest)))) (sym e)
    ∙ ap (λ (v : List ℕ). take (length w) v) (drop-append_seam front (w ++ rest)) ∙ take-append_seam w rest

lexes_texts : {at : ℕ} {cs : List ℕ} {ts : List Token} {f : Option LexFault} → Lexes at cs ts f → (bytes front : List ℕ) → bytes ≡ front ++ encode_utf8_all cs → length front ≡ at → HaveTexts bytes ts
lexes_texts at_end bytes front e l = tt
lexes_texts (fault d) bytes front e l = tt
lexes_texts (blank {at = at} {c = c} {cs = cs} b d) bytes front e l =
    lexes_texts d bytes (front ++ encode_utf8_all (c ∷ []))
    (e ∙ ap (λ (v : List ℕ). front ++ v) (encodes-append (c ∷ []) cs) ∙ sym (append_assoc front (encode_utf8_all (c ∷ [])) (encode_utf8_all cs)))
    (length-append front (encode_utf8_all (c ∷ [])) ∙ ap (λ n. n + width (c ∷ [])) l)
lexes_texts (comment {at = at} {w = w} {rest = rest} i d) bytes front e l =
    lexes_texts d bytes (front ++ encode_utf8_all w)
    (e ∙ ap (λ (v : List ℕ). front ++ v) (encodes-append w rest) ∙ sym (append_assoc front (encode_utf8_all w) (encode_utf8_all rest)))
    (length-append front (encode_utf8_all w) ∙ ap (λ n. n + width w) l)
lexes_texts (token {at = at} {k = k} {w = w} {rest = rest} i d) bytes front e l =
    let whole = e ∙ ap (λ (v : List ℕ). front ++ v) (encodes-append w rest) in (
      subst (IsTextFor k) (sym (ap (λ (v : List ℕ). text_of v (lexed k at (at + width w))) whole ∙ slice_is front (encode_utf8_all w) (encode_utf8_all rest) at k l)) (token_text i),
      lexes_texts d bytes (front ++ encode_utf8_all w)
          (whole ∙ sym (append_assoc front (encode_utf8_all w) (encode_utf8_all rest)))
          (length-append front (encode_utf8_all w) ∙ ap (λ n. n + width w) l),
    )

pub have_texts : (bytes : List ℕ) (ts : List Token) (f : Option LexFault) → TokensOf bytes ts f → HaveTexts bytes ts
have_texts bytes ts f t = lexes_texts t.lexed bytes [] (sym t.spelled) refl
