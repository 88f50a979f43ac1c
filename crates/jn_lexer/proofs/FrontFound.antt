-- What reading from left to right finds at the front is what the definition of the tokens has there.
use Rattle.std.proofs.Common.{ℕ, false, List, ◌∷◌, sym, subst, ◌==◌}
use Rattle.std.proofs.lemmas.Bool.{eqb-true}
use Rattle.std.specs.Char.{is_ascii_digit}
use Rattle.jn_base.specs.Tokens.{quote, is_blank, begins_name, begins_comment}
use Rattle.jn_lexer.specs.Front.{text_front, front}
use Rattle.jn_lexer.proofs.Stands.{Stands, blank, by_test}
use Rattle.jn_lexer.proofs.Found.{word_stands, number_stands}
use Rattle.jn_lexer.proofs.TextFound.{text_stands}
use Rattle.jn_lexer.proofs.CommentFound.{comment_stands}
use Rattle.jn_lexer.proofs.MarkFound.{mark_stands}

pub front_stands : (c : ℕ) (cs : List ℕ) → Stands (c ∷ cs) (front (c ∷ cs))
unfolding front
front_stands c cs = by_test (Stands (c ∷ cs)) (is_blank c) _ _ (λ b. blank b)
    (λ b. by_test (Stands (c ∷ cs)) (begins_name c) _ _ (λ n. word_stands c cs n)
    (λ n. by_test (Stands (c ∷ cs)) (is_ascii_digit c) _ _ (λ d. number_stands c cs d)
    (λ d. by_test (Stands (c ∷ cs)) (c == quote) _ _ (λ q. subst (λ x. Stands (x ∷ cs) (text_front false 1 cs)) (sym (eqb-true c quote q)) (text_stands cs))
    (λ q. by_test (Stands (c ∷ cs)) (begins_comment (c ∷ cs)) _ _ (λ s. comment_stands c cs s)
    (λ s. mark_stands c cs (record { not_blank = b; no_name = n; no_digit = d; no_quote = q; no_comment = s }))))))
