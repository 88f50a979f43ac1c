-- What the definition of the tokens has at the front is what reading finds there.
use Rattle.std.proofs.Common.{◌≡◌, ℕ, suc, ◌+◌, ◌<◌, ◌≤◌, Bool, true, false, not, List, [], ◌∷◌, ◌++◌, length, take, refl, sym, ◌∙◌, ap, arith, ◌==◌, if◌then◌else◌, add-zero, append_assoc, length-append}
use Rattle.std.specs.Prelude.{nat_lt}
use Rattle.std.specs.Char.{is_ascii_digit, is_ascii_alphabetic}
use Rattle.std.specs.List.{prefix_len, AllPass}
use Rattle.std.proofs.lemmas.Bool.{eqb-true}
use Rattle.std.proofs.lemmas.Bool.Decides.{nat_tests}
use Rattle.std.proofs.Math.Seq.{take-append_seam}
use Rattle.jn_base.specs.declared.token.TokenKind.{TokenKind}
use Rattle.jn_base.specs.declared.token.TokenKind.TheVariants.{Name, Keyword, Number, Text, Mark}
use Rattle.jn_base.specs.declared.token.LexFault.{LexFault}
use Rattle.jn_base.specs.Tokens.{line_feed, quote, star, slash, backslash, underscore, width, BeginsWithNo, is_blank, begins_name, continues_name, is_keyword, is_good_number, is_mark, begins_comment, HasNoEnd, IsComment, to_line_end, to_end, IsToken, name, keyword, number, text, mark, IsFault, bad_number, open_comment, open_text, bad_escape, bad_char}
use Rattle.jn_lexer.specs.declared.front.Flaw.{Flaw}
use Rattle.jn_lexer.specs.declared.front.Flaw.TheVariants as flaw
use Rattle.jn_lexer.specs.declared.front.Piece.TheVariants.{Gap, Token, Fault}
use Rattle.jn_lexer.specs.Front.{fault_at, word_front, number_front, text_front, long_comment_front, comment_front, single_front, mark_front, front}
use Rattle.jn_lexer.proofs.Marks.{may_begin_mark, mark_shape, and_left, and_right}
use Rattle.jn_lexer.proofs.MarkFound.{IsOther}
use Rattle.jn_lexer.proofs.CharTests.{if_true, if_false, no_name_at, name_no_blank, digit_no_name, digit_no_blank}
use Rattle.jn_lexer.proofs.Again.{run_is, closed_again, open_again, bad_again, ended_again, endless_again}

-- which way the first character goes
at_blank : (c : ℕ) (cs : List ℕ) → is_blank c ≡ true → front (c ∷ cs) ≡ Gap 1
unfolding front
at_blank c cs b = if_true (is_blank c) _ _ b

pub blank_again : (c : ℕ) (cs : List ℕ) → is_blank c ≡ true → front (c ∷ cs) ≡ Gap 1
blank_again c cs b = at_blank c cs b

at_name : (c : ℕ) (cs : List ℕ) → begins_name c ≡ true → front (c ∷ cs) ≡ word_front (prefix_len continues_name cs + 1) (c ∷ cs)
unfolding front
at_name c cs n = if_false (is_blank c) _ _ (name_no_blank c n) ∙ if_true (begins_name c) _ _ n

at_digit : (c : ℕ) (cs : List ℕ) → is_ascii_digit c ≡ true → front (c ∷ cs) ≡ number_front (prefix_len is_ascii_digit (c ∷ cs)) (c ∷ cs)
unfolding front
at_digit c cs d = if_false (is_blank c) _ _ (digit_no_blank c d) ∙ if_false (begins_name c) _ _ (digit_no_name c d) ∙ if_true (is_ascii_digit c) _ _ d

at_quote : (cs : List ℕ) → front (quote ∷ cs) ≡ text_front false 1 cs
unfolding front
at_quote cs = if_false (begins_name quote) _ _ (no_name_at quote (omega arith) refl refl)

at_slash : (cs : List ℕ) → begins_comment (slash ∷ cs) ≡ true → front (slash ∷ cs) ≡ comment_front cs
unfolding front
at_slash cs b = if_false (begins_name slash) _ _ (no_name_at slash (omega arith) refl refl) ∙ if_true (begins_comment (slash ∷ cs)) _ _ b

at_other : (c : ℕ) (cs : List ℕ) → IsOther c cs → front (c ∷ cs) ≡ mark_front (c ∷ cs)
unfolding front
at_other c cs o = if_false (is_blank c) _ _ o.not_blank ∙ if_false (begins_name c) _ _ o.no_name ∙ if_false (is_ascii_digit c) _ _ o.no_digit
    ∙ if_false (c == quote) _ _ o.no_quote ∙ if_false (begins_comment (c ∷ cs)) _ _ o.no_comment

word_again : (c : ℕ) (w rest : List ℕ) (k : Bool) → begins_name c ≡ true → AllPass continues_name w → BeginsWithNo continues_name rest
    → is_keyword (c ∷ w) ≡ k → front (c ∷ (w ++ rest)) ≡ Token (if k then Keyword else Name) (suc (length w))
unfolding word_front
word_again c w rest k b a s e =
    let len : prefix_len continues_name (w ++ rest) + 1 ≡ suc (length w) = omega (arith, run_is continues_name w rest a s) in
    let taken : is_keyword (c ∷ take (length w) (w ++ rest)) ≡ k = ap (λ (v : List ℕ). is_keyword (c ∷ v)) (take-append_seam w rest) ∙ e in
    at_name c (w ++ rest) b ∙ ap (λ n. word_front n (c ∷ (w ++ rest))) len
    ∙ ap (λ (t : Bool). Token (if t then Keyword else Name) (suc (length w))) taken

digits_again : (c : ℕ) (w rest : List ℕ) (k : Bool) → AllPass is_ascii_digit (c ∷ w) → BeginsWithNo is_ascii_digit rest
    → is_good_number (c ∷ w) ≡ k → front (c ∷ (w ++ rest)) ≡ (if k then Token Number (suc (length w)) else Fault flaw.BadNumber 0)
unfolding number_front
digits_again c w rest k a s e =
    let taken : is_good_number (c ∷ take (length w) (w ++ rest)) ≡ k = ap (λ (v : List ℕ). is_good_number (c ∷ v)) (take-append_seam w rest) ∙ e in
    at_digit c (w ++ rest) (a 0 0 (omega arith)) ∙ ap (λ n. number_front n (c ∷ (w ++ rest))) (run_is is_ascii_digit (c ∷ w) rest a s)
    ∙ ap (λ (t : Bool). if t then Token Number (suc (length w)) else Fault flaw.BadNumber 0) taken

pub comment_again : {w rest : List ℕ} → IsComment w rest → front (w ++ rest) ≡ Gap (length w)
unfolding comment_front
comment_again (to_line_end {w = w} {rest = rest} a s) = at_slash (slash ∷ (w ++ rest)) refl ∙ ap (λ n. Gap (n + 2)) (run_is (λ c. not (c == line_feed)) w rest a s) ∙ ap Gap (omega arith)
comment_again (to_end w {rest = rest} h) =
    let len : suc (suc (suc (suc (length w)))) ≡ length (slash ∷ star ∷ (w ++ star ∷ slash ∷ [])) = omega (arith, length-append w (star ∷ slash ∷ [])) in
    at_slash (star ∷ ((w ++ star ∷ slash ∷ []) ++ rest)) refl ∙ ap (λ (xs : List ℕ). long_comment_front false 2 xs) (append_assoc w (star ∷ slash ∷ []) rest)
    ∙ ended_again w rest h ∙ ap Gap len

not_true : (b : Bool) → not b ≡ true → b ≡ false
not_true true h = cc
not_true false h = refl

small_is : (c : ℕ) → nat_lt c 128 ≡ true → c < 128
small_is c h = grind (arith, nat_tests)

-- what may begin a mark goes to the marks
other_is : (c : ℕ) (cs : List ℕ) → may_begin_mark c ≡ true → begins_comment (c ∷ cs) ≡ false → IsOther c cs
other_is c cs h b =
    let no_quote = and_right _ (not (c == quote)) h in
    let four = and_left _ (not (c == quote)) h in
    let no_digit = and_right _ (not (is_ascii_digit c)) four in
    let three = and_left _ (not (is_ascii_digit c)) four in
    let no_underscore = and_right _ (not (c == underscore)) three in
    let two = and_left _ (not (c == underscore)) three in
    let no_letter = and_right _ (not (is_ascii_alphabetic c)) two in
    let one = and_left _ (not (is_ascii_alphabetic c)) two in
    record {
      not_blank = not_true _ (and_right (nat_lt c 128) _ one);
      no_name = no_name_at c (small_is c (and_left _ _ one)) (not_true _ no_letter) (not_true _ no_underscore);
      no_digit = not_true _ no_digit;
      no_quote = not_true _ no_quote;
      no_comment = b;
    }

mark_again : (w rest : List ℕ) → is_mark w ≡ true → begins_comment (w ++ rest) ≡ false → ((v others : List ℕ) → is_mark v ≡ true → w ++ rest ≡ v ++ others → length v ≤ length w)
    → front (w ++ rest) ≡ Token Mark (length w)
unfolding mark_front single_front
mark_again [] rest m b l = let shape : false ≡ true = mark_shape [] m in absurd (cc)
mark_again (c ∷ []) [] m b l = at_other c [] (other_is c [] (mark_shape (c ∷ []) m) b) ∙ if_true (is_mark (c ∷ [])) _ _ m
mark_again (c ∷ []) (d ∷ rest) m b l = at_other c (d ∷ rest) (other_is c (d ∷ rest) (mark_shape (c ∷ []) m) b) ∙ if_false (is_mark (c ∷ d ∷ [])) _ _ (no_pair (is_mark (c ∷ d ∷ [])) refl) ∙ if_true (is_mark (c ∷ [])) _ _ m
  where
    no_pair : (t : Bool) → is_mark (c ∷ d ∷ []) ≡ t → is_mark (c ∷ d ∷ []) ≡ false
    no_pair true e = let short : 2 ≤ 1 = l (c ∷ d ∷ []) rest e refl in absurd (omega arith)
    no_pair false e = e
mark_again (c ∷ d ∷ []) rest m b l = at_other c (d ∷ rest) (other_is c (d ∷ rest) (mark_shape (c ∷ d ∷ []) m) b) ∙ if_true (is_mark (c ∷ d ∷ [])) _ _ m
mark_again (c ∷ d ∷ e ∷ w) rest m b l = let shape : false ≡ true = mark_shape (c ∷ d ∷ e ∷ w) m in absurd (cc)

pub token_again : {k : TokenKind} {w rest : List ℕ} → IsToken k w rest → front (w ++ rest) ≡ Token k (length w)
token_again (name {c = c} {w = w} {rest = rest} b a s e) = word_again c w rest false b a s e
token_again (keyword {c = c} {w = w} {rest = rest} b a s e) = word_again c w rest true b a s e
token_again (number {c = c} {w = w} {rest = rest} a s e) = digits_again c w rest true a s e
token_again (text {w = w} {rest = rest} d) =
    let len : 1 + length w + 1 ≡ length (quote ∷ (w ++ quote ∷ [])) = omega (arith, length-append w (quote ∷ [])) in
    at_quote ((w ++ quote ∷ []) ++ rest) ∙ ap (λ (xs : List ℕ). text_front false 1 xs) (append_assoc w (quote ∷ []) rest) ∙ closed_again rest d ∙ ap (λ n. Token Text n) len
token_again (mark {w = w} {rest = rest} m b l) = mark_again w rest m b l

-- a fault is found, and its byte
pub record IsFoundFault (at : ℕ) (cs : List ℕ) (g : LexFault) : Type 0 where
  pub flaw_is : Flaw
  pub before : ℕ
  pub found : front cs ≡ Fault flaw_is before
  pub same : g ≡ fault_at flaw_is (at + width (take before cs))

-- one that begins here
found_here : (at : ℕ) (cs : List ℕ) (f : Flaw) → front cs ≡ Fault f 0 → IsFoundFault at cs (fault_at f at)
found_here at cs f e = record { flaw_is = f; before = 0; found = e; same = ap (λ n. fault_at f n) (sym (add-zero at)) }

slash_is_mark : is_mark (slash ∷ []) ≡ true
unfolding is_mark
slash_is_mark = refl

open_comment_again : (cs : List ℕ) → HasNoEnd cs → front (slash ∷ star ∷ cs) ≡ Fault flaw.OpenComment 0
unfolding comment_front
open_comment_again cs h = at_slash (star ∷ cs) refl ∙ endless_again cs h

-- the characters before a bad escape
before_escape : (w rest : List ℕ) → take (1 + length w) (quote ∷ (w ++ rest)) ≡ quote ∷ w
before_escape w rest =
    let one : 1 + length w ≡ suc (length w) = omega arith in
    ap (λ n. take n (quote ∷ (w ++ rest))) one ∙ ap (λ (v : List ℕ). quote ∷ v) (take-append_seam w rest)

-- no mark begins so
record BeginsNoMark (cs : List ℕ) : Type 0 where
  none : (v others : List ℕ) → is_mark v ≡ true → cs ≡ v ++ others → ⊥

is_no_mark : (cs : List ℕ) → BeginsNoMark cs → (v others : List ℕ) → cs ≡ v ++ others → is_mark v ≡ false
is_no_mark cs n v others e = by_test (is_mark v) refl
  where
    by_test : (t : Bool) → is_mark v ≡ t → is_mark v ≡ false
    by_test true m = absurd (n.none v others m e)
    by_test false m = m

begins_no_comment : (c : ℕ) (cs : List ℕ) → BeginsNoMark (c ∷ cs) → begins_comment (c ∷ cs) ≡ false
begins_no_comment c [] n = refl
begins_no_comment c (d ∷ cs) n = by_test (begins_comment (c ∷ d ∷ cs)) refl
  where
    by_test : (t : Bool) → begins_comment (c ∷ d ∷ cs) ≡ t → begins_comment (c ∷ d ∷ cs) ≡ false
    by_test true h = let first : c ≡ slash = eqb-true c slash (and_left (c == slash) _ h) in absurd (n.none (slash ∷ []) (d ∷ cs) slash_is_mark (ap (λ x. x ∷ d ∷ cs) first))
    by_test false h = h

other_again : (c : ℕ) (cs : List ℕ) → BeginsNoMark (c ∷ cs) → mark_front (c ∷ cs) ≡ Fault flaw.BadChar 0
unfolding mark_front single_front
other_again c [] n = if_false (is_mark (c ∷ [])) _ _ (is_no_mark (c ∷ []) n (c ∷ []) [] refl)
other_again c (d ∷ cs) n = if_false (is_mark (c ∷ d ∷ [])) _ _ (is_no_mark (c ∷ d ∷ cs) n (c ∷ d ∷ []) cs refl)
    ∙ if_false (is_mark (c ∷ [])) _ _ (is_no_mark (c ∷ d ∷ cs) n (c ∷ []) (d ∷ cs) refl)

pub fault_again : {at : ℕ} {cs : List ℕ} {g : LexFault} → IsFault at cs g → IsFoundFault at cs g
fault_again (bad_number {at = at} {c = c} w rest a s e) = found_here at (c ∷ (w ++ rest)) flaw.BadNumber (digits_again c w rest false a s e)
fault_again (open_comment {at = at} {cs = cs} h) = found_here at (slash ∷ star ∷ cs) flaw.OpenComment (open_comment_again cs h)
fault_again (open_text {at = at} {w = w} rest d b) = found_here at (quote ∷ (w ++ rest)) flaw.OpenText (at_quote (w ++ rest) ∙ open_again rest d b)
fault_again (bad_escape {at = at} {w = w} rest d b) = record {
  flaw_is = flaw.BadChar;
  before = 1 + length w;
  found = at_quote (w ++ backslash ∷ rest) ∙ bad_again rest d b;
  same = ap (λ (v : List ℕ). fault_at flaw.BadChar (at + width v)) (sym (before_escape w (backslash ∷ rest)));
}
fault_again (bad_char {at = at} {c = c} {cs = cs} b n d q none) =
    let marks : BeginsNoMark (c ∷ cs) = record { none = none } in
    found_here at (c ∷ cs) flaw.BadChar (at_other c cs (record { not_blank = b; no_name = n; no_digit = d; no_quote = q; no_comment = begins_no_comment c cs marks }) ∙ other_again c cs marks)
