-- Texts, found from left to right.
use Rattle.std.proofs.Common.{◌≡◌, ℕ, suc, ◌+◌, Bool, true, false, not, List, [], ◌∷◌, ◌++◌, length, take, refl, sym, ◌∙◌, ap, subst, arith, ◌||◌, ◌==◌, if◌then◌else◌, length-append, append_assoc}
use Rattle.std.proofs.lemmas.Bool.{eqb-true}
use Rattle.std.proofs.Math.Seq.{take-append_seam}
use Rattle.jn_base.specs.declared.token.TokenKind.TheVariants.{Text}
use Rattle.jn_base.specs.declared.token.LexFault.TheVariants as lex
use Rattle.jn_base.specs.Tokens.{quote, backslash, width, BeginsWithNo, ends_line, is_plain, is_escape, IsInText, no_more, plain, escape, text, IsFault, open_text, bad_escape}
use Rattle.jn_lexer.specs.declared.front.Flaw.TheVariants as flaw
use Rattle.jn_lexer.specs.declared.front.Piece.{Piece}
use Rattle.jn_lexer.specs.declared.front.Piece.TheVariants.{Token, Fault}
use Rattle.jn_lexer.specs.Front.{text_front}
use Rattle.jn_lexer.proofs.Stands.{Stands, token, fault, fault_here, by_test}

-- what stands behind the first quote, with n characters before
data IsText : ℕ → List ℕ → Piece → Type 0 where
  closed : {n m : ℕ} {w : List ℕ} (rest : List ℕ) → IsInText w → m ≡ n + suc (length w) → IsText n (w ++ quote ∷ rest) (Token Text m)
  open_there : {n : ℕ} {w : List ℕ} (rest : List ℕ) → IsInText w → BeginsWithNo (λ c. not (ends_line c)) rest → IsText n (w ++ rest) (Fault flaw.OpenText 0)
  bad : {n m : ℕ} {w : List ℕ} (rest : List ℕ) → IsInText w → BeginsWithNo is_escape rest → m ≡ n + length w → IsText n (w ++ backslash ∷ rest) (Fault flaw.BadChar m)

plain_on : {n c : ℕ} {cs : List ℕ} {p : Piece} → is_plain c ≡ true → IsText (n + 1) cs p → IsText n (c ∷ cs) p
plain_on {n} h (closed {m = m} {w = w} rest d e) = closed rest (plain h d) (omega arith)
plain_on h (open_there rest d b) = open_there rest (plain h d) b
plain_on {n} h (bad {m = m} {w = w} rest d b e) = bad rest (plain h d) b (omega arith)

escape_on : {n c : ℕ} {cs : List ℕ} {p : Piece} → is_escape c ≡ true → IsText (n + 2) cs p → IsText n (backslash ∷ c ∷ cs) p
escape_on {n} h (closed {m = m} {w = w} rest d e) = closed rest (escape h d) (omega arith)
escape_on h (open_there rest d b) = open_there rest (escape h d) b
escape_on {n} h (bad {m = m} {w = w} rest d b e) = bad rest (escape h d) b (omega arith)

none_of : (a b l : Bool) → a ≡ false → b ≡ false → l ≡ false → not (a || b || l) ≡ true
none_of true b l x y z = absurd (cc)
none_of false true l x y z = absurd (cc)
none_of false false true x y z = absurd (cc)
none_of false false false x y z = refl

text_is : (escaped : Bool) (n : ℕ) (cs : List ℕ) → IsText n (if escaped then backslash ∷ cs else cs) (text_front escaped n cs)
unfolding text_front
text_is false n [] = open_there [] no_more tt
text_is true n [] = bad [] no_more tt (omega arith)
text_is false n (c ∷ cs) = by_test (IsText n (c ∷ cs)) (c == quote) _ _
    (λ q. subst (λ x. IsText n (x ∷ cs) (Token Text (n + 1))) (sym (eqb-true c quote q)) (closed cs no_more (omega arith)))
    (λ q. by_test (IsText n (c ∷ cs)) (ends_line c) _ _ (λ l. open_there (c ∷ cs) no_more (ap (λ (t : Bool). not t) l))
    (λ l. by_test (IsText n (c ∷ cs)) (c == backslash) _ _
    (λ b. subst (λ x. IsText n (x ∷ cs) (text_front true n cs)) (sym (eqb-true c backslash b)) (text_is true n cs))
    (λ b. plain_on (none_of (c == quote) (c == backslash) (ends_line c) q b l) (text_is false (n + 1) cs))))
text_is true n (c ∷ cs) = by_test (IsText n (backslash ∷ c ∷ cs)) (is_escape c) _ _ (λ e. escape_on e (text_is false (n + 2) cs))
    (λ e. bad (c ∷ cs) no_more e (omega arith))

-- so it stands at the front with the quote before it
quoted : (cs : List ℕ) (p : Piece) → IsText 1 cs p → Stands (quote ∷ cs) p
quoted _ _ (closed {m = m} {w = w} rest d e) = subst (λ xs. Stands (quote ∷ xs) (Token Text m)) (append_assoc w (quote ∷ []) rest) (token (text d) (omega (arith, length-append w (quote ∷ []))))
quoted _ _ (open_there {w = w} rest d b) = fault_here (quote ∷ (w ++ rest)) flaw.OpenText (λ at. open_text rest d b)
quoted _ _ (bad {m = m} {w = w} rest d b e) = fault (λ at. subst (λ (v : List ℕ). IsFault at (quote ∷ (w ++ backslash ∷ rest)) (lex.BadChar (at + width v))) (sym (taken m e)) (bad_escape rest d b)) (omega (arith, length-append w (backslash ∷ rest)))
  where
    taken : (m : ℕ) → m ≡ 1 + length w → take m (quote ∷ (w ++ backslash ∷ rest)) ≡ quote ∷ w
    taken m e = let one : m ≡ suc (length w) = omega arith in ap (λ n. take n (quote ∷ (w ++ backslash ∷ rest))) one ∙ ap (λ (v : List ℕ). quote ∷ v) (take-append_seam w (backslash ∷ rest))

pub text_stands : (cs : List ℕ) → Stands (quote ∷ cs) (text_front false 1 cs)
text_stands cs = quoted cs _ (text_is false 1 cs)
