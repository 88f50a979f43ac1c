-- Comments, found from left to right.
use Rattle.std.proofs.Common.{◌≡◌, ℕ, suc, ◌+◌, Bool, true, false, not, List, [], ◌∷◌, ◌++◌, length, refl, sym, ap, subst, arith, ◌||◌, ◌&&◌, ◌==◌, if◌then◌else◌, length-append, append_assoc}
use Rattle.std.proofs.lemmas.Bool.{eqb-true}
use Rattle.std.proofs.lemmas.List.Sums.{prefix_len-le-length}
use Rattle.std.specs.List.{prefix_len}
use Rattle.jn_base.specs.Tokens.{line_feed, star, slash, BeginsWithNo, begins_comment, HasNoEnd, to_line_end, to_end, open_comment}
use Rattle.jn_lexer.specs.declared.front.Flaw.TheVariants as flaw
use Rattle.jn_lexer.specs.declared.front.Piece.{Piece}
use Rattle.jn_lexer.specs.declared.front.Piece.TheVariants.{Gap, Fault}
use Rattle.jn_lexer.specs.Front.{long_comment_front, comment_front}
use Rattle.jn_lexer.proofs.Digits.{run_passes}
use Rattle.jn_lexer.proofs.Marks.{and_left, and_right}
use Rattle.jn_lexer.proofs.Stands.{Stands, comment, comment_at, fault_here, by_test}
use Rattle.jn_lexer.proofs.Found.{run_stops}

-- what stands behind the first two characters, with n characters before
data IsLong : ℕ → List ℕ → Piece → Type 0 where
  ended : {n m : ℕ} (w rest : List ℕ) → HasNoEnd (w ++ star ∷ []) → m ≡ n + suc (suc (length w)) → IsLong n (w ++ star ∷ slash ∷ rest) (Gap m)
  endless : {n : ℕ} {cs : List ℕ} → HasNoEnd cs → IsLong n cs (Fault flaw.OpenComment 0)

no_end_on : (c : ℕ) (cs : List ℕ) → BeginsWithNo (λ d. c == star && d == slash) cs → HasNoEnd cs → HasNoEnd (c ∷ cs)
no_end_on c [] b h = tt
no_end_on c (d ∷ cs) b h = (b, h)

-- one more character, which with the next is no end
long_on : {n c : ℕ} {cs : List ℕ} {p : Piece} → BeginsWithNo (λ d. c == star && d == slash) cs → IsLong (n + 1) cs p → IsLong n (c ∷ cs) p
long_on {n} {c} b (ended {m = m} [] rest h e) = ended (c ∷ []) rest (b, tt) (omega arith)
long_on {n} {c} b (ended {m = m} (d ∷ w) rest h e) = ended (c ∷ d ∷ w) rest (no_end_on c (d ∷ w ++ star ∷ []) b h) (omega arith)
long_on {n} {c} b (endless {cs = cs} h) = endless (no_end_on c cs b h)

not_star : (c : ℕ) (cs : List ℕ) → (c == star) ≡ false → BeginsWithNo (λ d. c == star && d == slash) cs
not_star c [] e = tt
not_star c (d ∷ cs) e = ap (λ (t : Bool). t && d == slash) e

long_is : (starred : Bool) (n : ℕ) (cs : List ℕ) → IsLong n (if starred then star ∷ cs else cs) (long_comment_front starred (if starred then n + 1 else n) cs)
unfolding long_comment_front
long_is false n [] = endless tt
long_is true n [] = endless tt
long_is false n (c ∷ cs) = by_star (c == star) refl (long_is true n cs) (long_is false (n + 1) cs)
  where
    by_star : (s : Bool) → (c == star) ≡ s → IsLong n (star ∷ cs) (long_comment_front true (n + 1) cs) → IsLong (n + 1) cs (long_comment_front false (n + 1) cs)
        → IsLong n (c ∷ cs) (long_comment_front s (n + 1) cs)
    by_star true e h g = subst (λ x. IsLong n (x ∷ cs) (long_comment_front true (n + 1) cs)) (sym (eqb-true c star e)) h
    by_star false e h g = long_on (not_star c cs e) g
long_is true n (c ∷ cs) = by_test (IsLong n (star ∷ c ∷ cs)) (c == slash) _ _
    (λ e. subst (λ x. IsLong n (star ∷ x ∷ cs) (Gap (n + 1 + 1))) (sym (eqb-true c slash e)) (ended [] cs tt (omega arith)))
    (λ e. by_star (c == star) refl e (long_is true (n + 1) cs) (long_is false (n + 1 + 1) cs))
  where
    by_star : (s : Bool) → (c == star) ≡ s → (c == slash) ≡ false → IsLong (n + 1) (star ∷ cs) (long_comment_front true (n + 1 + 1) cs) → IsLong (n + 1 + 1) cs (long_comment_front false (n + 1 + 1) cs)
        → IsLong n (star ∷ c ∷ cs) (long_comment_front s (n + 1 + 1) cs)
    by_star true e f h g = long_on f (subst (λ x. IsLong (n + 1) (x ∷ cs) (long_comment_front true (n + 1 + 1) cs)) (sym (eqb-true c star e)) h)
    by_star false e f h g = long_on f (long_on (not_star c cs e) g)

-- so it stands at the front with the first two before it
begun : (cs : List ℕ) (p : Piece) → IsLong 2 cs p → Stands (slash ∷ star ∷ cs) p
begun _ _ (ended {m = m} w rest h e) = subst (λ xs. Stands (slash ∷ star ∷ xs) (Gap m)) (append_assoc w (star ∷ slash ∷ []) rest) (comment (to_end w h) (omega (arith, length-append w (star ∷ slash ∷ []))))
begun _ _ (endless {cs = cs} h) = fault_here (slash ∷ star ∷ cs) flaw.OpenComment (λ at. open_comment h)

line_stands : (cs : List ℕ) → Stands (slash ∷ slash ∷ cs) (Gap (prefix_len (λ d. not (d == line_feed)) cs + 2))
line_stands cs =
    let two : prefix_len (λ d. not (d == line_feed)) cs + 2 ≡ suc (suc (prefix_len (λ d. not (d == line_feed)) cs)) = omega arith in
    subst (λ n. Stands (slash ∷ slash ∷ cs) (Gap n)) (sym two)
    (comment_at (slash ∷ slash ∷ cs) (suc (suc (prefix_len (λ d. not (d == line_feed)) cs))) (omega (arith, prefix_len-le-length (λ d. not (d == line_feed)) cs))
    (to_line_end (run_passes (λ d. not (d == line_feed)) cs _ refl) (run_stops (λ d. not (d == line_feed)) cs)))

or_right : (a b : Bool) → a ≡ false → (a || b) ≡ true → b ≡ true
or_right true b e h = absurd (cc)
or_right false b e h = h

pub comment_stands : (c : ℕ) (cs : List ℕ) → begins_comment (c ∷ cs) ≡ true → Stands (c ∷ cs) (comment_front cs)
unfolding comment_front
comment_stands c [] b = absurd (cc)
comment_stands c (d ∷ cs) b = subst (λ x. Stands (x ∷ d ∷ cs) (comment_front (d ∷ cs))) (sym (eqb-true c slash (and_left _ _ b)))
    (by_test (Stands (slash ∷ d ∷ cs)) (d == slash) _ _
    (λ e. subst (λ x. Stands (slash ∷ x ∷ cs) (Gap (prefix_len (λ y. not (y == line_feed)) cs + 2))) (sym (eqb-true d slash e)) (line_stands cs))
    (λ e. subst (λ x. Stands (slash ∷ x ∷ cs) (long_comment_front false 2 cs)) (sym (eqb-true d star (or_right _ _ e (and_right (c == slash) _ b)))) (begun cs _ (long_is false 2 cs))))
