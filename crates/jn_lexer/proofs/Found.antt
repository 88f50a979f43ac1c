-- What reading from left to right finds at the front is what the definition of the tokens has there.
use Rattle.std.proofs.Common.{◌≡◌, ℕ, suc, ◌+◌, Bool, true, false, cond, List, [], ◌∷◌, take, drop, refl, sym, ◌∙◌, ap, subst, arith, if◌then◌else◌, add-one}
use Rattle.std.specs.Char.{is_ascii_digit}
use Rattle.std.specs.List.{prefix_len, AllPass}
use Rattle.std.proofs.lemmas.List.Sums.{prefix_len-le-length}
use Rattle.jn_base.specs.declared.token.TokenKind.TheVariants.{Name, Keyword, Number}
use Rattle.jn_base.specs.Tokens.{BeginsWithNo, begins_name, continues_name, is_keyword, is_good_number, name, keyword, number, IsFault, bad_number}
use Rattle.jn_base.specs.declared.token.LexFault.TheVariants as lex
use Rattle.std.proofs.lemmas.List.{take-append-drop}
use Rattle.jn_lexer.specs.declared.front.Flaw.TheVariants as flaw
use Rattle.jn_lexer.specs.declared.front.Piece.TheVariants.{Token, Fault}
use Rattle.jn_lexer.specs.Front.{word_front, number_front}
use Rattle.jn_lexer.proofs.Digits.{run_passes}
use Rattle.jn_lexer.proofs.Stands.{Stands, token_at, fault_here}

-- behind a run stands no character that passes its test
pub run_stops : (test : ℕ → Bool) (cs : List ℕ) → BeginsWithNo test (drop (prefix_len test cs) cs)
run_stops test [] = tt
run_stops test (c ∷ cs) = by_case (test c) refl (run_stops test cs)
  where
    by_case : (b : Bool) → test c ≡ b → BeginsWithNo test (drop (prefix_len test cs) cs) → BeginsWithNo test (drop (cond b (1 + prefix_len test cs) 0) (c ∷ cs))
    by_case true e h = let one : 1 + prefix_len test cs ≡ suc (prefix_len test cs) = omega arith in subst (λ n. BeginsWithNo test (drop n (c ∷ cs))) (sym one) h
    by_case false e h = e

pub word_stands : (c : ℕ) (cs : List ℕ) → begins_name c ≡ true → Stands (c ∷ cs) (word_front (prefix_len continues_name cs + 1) (c ∷ cs))
unfolding word_front
word_stands c cs b = subst (λ n. Stands (c ∷ cs) (Token (if is_keyword (take n (c ∷ cs)) then Keyword else Name) n)) (sym (add-one m)) (by_word (is_keyword (take (suc m) (c ∷ cs))) refl)
  where
    m : ℕ
    m = prefix_len continues_name cs

    by_word : (k : Bool) → is_keyword (c ∷ take (prefix_len continues_name cs) cs) ≡ k → Stands (c ∷ cs) (Token (if k then Keyword else Name) (suc (prefix_len continues_name cs)))
    by_word true e = token_at (c ∷ cs) Keyword (suc (prefix_len continues_name cs)) (omega (arith, prefix_len-le-length continues_name cs)) (keyword b (run_passes continues_name cs _ refl) (run_stops continues_name cs) e)
    by_word false e = token_at (c ∷ cs) Name (suc (prefix_len continues_name cs)) (omega (arith, prefix_len-le-length continues_name cs)) (name b (run_passes continues_name cs _ refl) (run_stops continues_name cs) e)

pub number_stands : (c : ℕ) (cs : List ℕ) → is_ascii_digit c ≡ true → Stands (c ∷ cs) (number_front (prefix_len is_ascii_digit (c ∷ cs)) (c ∷ cs))
unfolding number_front
number_stands c cs b = subst (λ n. Stands (c ∷ cs) (number_front n (c ∷ cs))) (sym length_is) (by_value (is_good_number (c ∷ take (prefix_len is_ascii_digit cs) cs)) refl)
  where
    length_is : prefix_len is_ascii_digit (c ∷ cs) ≡ suc (prefix_len is_ascii_digit cs)
    length_is = let one : 1 + prefix_len is_ascii_digit cs ≡ suc (prefix_len is_ascii_digit cs) = omega arith in ap (λ (t : Bool). cond t (1 + prefix_len is_ascii_digit cs) 0) b ∙ one

    passes : AllPass is_ascii_digit (c ∷ take (prefix_len is_ascii_digit cs) cs)
    passes = run_passes is_ascii_digit (c ∷ cs) (suc (prefix_len is_ascii_digit cs)) (sym length_is)

    by_value : (k : Bool) → is_good_number (c ∷ take (prefix_len is_ascii_digit cs) cs) ≡ k → Stands (c ∷ cs) (if k then Token Number (suc (prefix_len is_ascii_digit cs)) else Fault flaw.BadNumber 0)
    by_value true e = token_at (c ∷ cs) Number (suc (prefix_len is_ascii_digit cs)) (omega (arith, prefix_len-le-length is_ascii_digit cs)) (number passes (run_stops is_ascii_digit cs) e)
    by_value false e = fault_here (c ∷ cs) flaw.BadNumber (λ at. subst (λ xs. IsFault at (c ∷ xs) (lex.BadNumber at)) (take-append-drop (prefix_len is_ascii_digit cs) cs) (bad_number _ _ passes (run_stops is_ascii_digit cs) e))
