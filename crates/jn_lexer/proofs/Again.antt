-- What the definition of the tokens has at the front is what reading finds there: texts and comments.
use Rattle.std.proofs.Common.{◌≡◌, ℕ, suc, ◌+◌, Bool, true, false, not, List, [], ◌∷◌, ◌++◌, length, refl, sym, ◌∙◌, ap, subst, arith, ◌||◌, ◌&&◌, ◌==◌, if◌then◌else◌, add-zero}
use Rattle.std.specs.List.{prefix_len, AllPass}
use Rattle.std.proofs.lemmas.Bool.{eqb-true}
use Rattle.jn_base.specs.declared.token.TokenKind.TheVariants.{Text}
use Rattle.jn_base.specs.Tokens.{quote, star, slash, backslash, BeginsWithNo, ends_line, is_plain, is_escape, IsInText, no_more, plain, escape, HasNoEnd}
use Rattle.jn_lexer.specs.declared.front.Flaw.TheVariants as flaw
use Rattle.jn_lexer.specs.declared.front.Piece.TheVariants.{Gap, Token, Fault}
use Rattle.jn_lexer.specs.Front.{text_front, long_comment_front}
use Rattle.jn_lexer.proofs.CharTests.{if_true, if_false, line_end_no_quote}

-- a run is as long as the characters that pass
pub run_is : (test : ℕ → Bool) (w rest : List ℕ) → AllPass test w → BeginsWithNo test rest → prefix_len test (w ++ rest) ≡ length w
run_is test [] [] a b = refl
run_is test [] (c ∷ rest) a b = if_false (test c) _ _ b
run_is test (c ∷ w) rest a b =
    let more : prefix_len test (w ++ rest) ≡ length w = run_is test w rest (λ k d l. a (suc k) d (omega arith)) b in
    let first : test c ≡ true = a 0 0 (omega arith) in
    if_true (test c) _ _ first ∙ (omega arith)

record IsPlainOf (c : ℕ) : Type 0 where
  no_quote : (c == quote) ≡ false
  no_backslash : (c == backslash) ≡ false
  no_line_end : ends_line c ≡ false

plain_is : (c : ℕ) → is_plain c ≡ true → IsPlainOf c
plain_is c h = let f = by_tests (c == quote) (c == backslash) (ends_line c) h in record { no_quote = f.0; no_backslash = f.1; no_line_end = f.2 }
  where
    by_tests : (a b l : Bool) → not (a || b || l) ≡ true → (a ≡ false) × (b ≡ false) × (l ≡ false)
    by_tests true b l h = absurd (cc)
    by_tests false true l h = absurd (cc)
    by_tests false false true h = absurd (cc)
    by_tests false false false h = (refl, refl, refl)

-- what stands in a text is passed
text_passes : {w : List ℕ} → IsInText w → (n : ℕ) (rest : List ℕ) → text_front false n (w ++ rest) ≡ text_front false (n + length w) rest
unfolding text_front
text_passes no_more n rest = ap (λ m. text_front false m rest) (sym (add-zero n))
text_passes (plain {c = c} {w = w} h d) n rest =
    let p : IsPlainOf c = plain_is c h in
    let len : n + 1 + length w ≡ n + length (c ∷ w) = omega arith in
    if_false (c == quote) _ _ p.no_quote ∙ if_false (ends_line c) _ _ p.no_line_end ∙ if_false (c == backslash) _ _ p.no_backslash
    ∙ text_passes d (n + 1) rest ∙ ap (λ m. text_front false m rest) len
text_passes (escape {c = c} {w = w} h d) n rest =
    let len : n + 2 + length w ≡ n + length (backslash ∷ c ∷ w) = omega arith in
    if_true (is_escape c) _ _ h ∙ text_passes d (n + 2) rest ∙ ap (λ m. text_front false m rest) len

pub closed_again : {w : List ℕ} (rest : List ℕ) → IsInText w → text_front false 1 (w ++ quote ∷ rest) ≡ Token Text (1 + length w + 1)
unfolding text_front
closed_again rest d = text_passes d 1 (quote ∷ rest)

pub open_again : {w : List ℕ} (rest : List ℕ) → IsInText w → BeginsWithNo (λ c. not (ends_line c)) rest → text_front false 1 (w ++ rest) ≡ Fault flaw.OpenText 0
unfolding text_front
open_again [] d b = text_passes d 1 []
open_again (c ∷ rest) d b =
    let e : ends_line c ≡ true = by_test (ends_line c) b in
    text_passes d 1 (c ∷ rest) ∙ if_false (c == quote) _ _ (line_end_no_quote c e) ∙ if_true (ends_line c) _ _ e
  where
    by_test : (t : Bool) → not t ≡ false → t ≡ true
    by_test true h = refl
    by_test false h = cc

pub bad_again : {w : List ℕ} (rest : List ℕ) → IsInText w → BeginsWithNo is_escape rest → text_front false 1 (w ++ backslash ∷ rest) ≡ Fault flaw.BadChar (1 + length w)
unfolding text_front
bad_again [] d b = text_passes d 1 (backslash ∷ [])
bad_again (c ∷ rest) d b = text_passes d 1 (backslash ∷ c ∷ rest) ∙ if_false (is_escape c) _ _ b

no_end_behind : (c : ℕ) (cs : List ℕ) → HasNoEnd (c ∷ cs) → HasNoEnd cs
no_end_behind c [] h = tt
no_end_behind c (d ∷ cs) h = h.1

-- a star before them, where it says so
abbrev before : Bool → List ℕ → List ℕ
before starred cs = if starred then star ∷ cs else cs

-- one character that is no end goes on
before_on : (c : ℕ) (cs : List ℕ) → HasNoEnd (c ∷ cs) → HasNoEnd (before (c == star) cs)
before_on c cs h = by_star (c == star) refl
  where
    by_star : (s : Bool) → (c == star) ≡ s → HasNoEnd (before s cs)
    by_star true e = subst (λ x. HasNoEnd (x ∷ cs)) (eqb-true c star e) h
    by_star false e = no_end_behind c cs h

not_ended : (starred : Bool) (c : ℕ) (cs : List ℕ) → HasNoEnd (before starred (c ∷ cs)) → (starred && c == slash) ≡ false
not_ended true c cs h = h.0
not_ended false c cs h = refl

less_before : (starred : Bool) (c : ℕ) (cs : List ℕ) → HasNoEnd (before starred (c ∷ cs)) → HasNoEnd (c ∷ cs)
less_before true c cs h = h.1
less_before false c cs h = h

long_again : (starred : Bool) (n : ℕ) (w rest : List ℕ) → HasNoEnd (before starred (w ++ star ∷ [])) → long_comment_front starred n (w ++ star ∷ slash ∷ rest) ≡ Gap (n + suc (suc (length w)))
unfolding long_comment_front
long_again starred n [] rest h = if_false (starred && star == slash) _ _ (not_ended starred star [] h) ∙ ap Gap (omega arith)
long_again starred n (c ∷ w) rest h =
    let len : n + 1 + suc (suc (length w)) ≡ n + suc (suc (length (c ∷ w))) = omega arith in
    if_false (starred && c == slash) _ _ (not_ended starred c (w ++ star ∷ []) h)
    ∙ long_again (c == star) (n + 1) w rest (before_on c (w ++ star ∷ []) (less_before starred c (w ++ star ∷ []) h))
    ∙ ap Gap len

long_open : (starred : Bool) (n : ℕ) (cs : List ℕ) → HasNoEnd (before starred cs) → long_comment_front starred n cs ≡ Fault flaw.OpenComment 0
unfolding long_comment_front
long_open true n [] h = refl
long_open false n [] h = refl
long_open starred n (c ∷ cs) h =
    if_false (starred && c == slash) _ _ (not_ended starred c cs h) ∙ long_open (c == star) (n + 1) cs (before_on c cs (less_before starred c cs h))

pub ended_again : (w rest : List ℕ) → HasNoEnd (w ++ star ∷ []) → long_comment_front false 2 (w ++ star ∷ slash ∷ rest) ≡ Gap (suc (suc (suc (suc (length w)))))
ended_again w rest h = long_again false 2 w rest h ∙ ap Gap (omega arith)

pub endless_again : (cs : List ℕ) → HasNoEnd cs → long_comment_front false 2 cs ≡ Fault flaw.OpenComment 0
endless_again cs h = long_open false 2 cs h
