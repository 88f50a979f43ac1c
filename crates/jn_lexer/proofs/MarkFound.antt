-- Marks and other characters, found from left to right.
use Rattle.std.proofs.Common.{◌≡◌, ℕ, ◌≤◌, true, false, List, [], ◌∷◌, ◌++◌, length, refl, ap, subst, arith, ◌==◌}
use Rattle.std.specs.Char.{is_ascii_digit}
use Rattle.jn_base.specs.Tokens.{quote, is_blank, begins_name, is_mark, begins_comment, mark, bad_char}
use Rattle.jn_lexer.specs.declared.front.Flaw.TheVariants as flaw
use Rattle.jn_lexer.specs.Front.{single_front, mark_front}
use Rattle.jn_lexer.proofs.Marks.{mark_shape}
use Rattle.jn_lexer.proofs.Stands.{Stands, token, fault_here, by_test}

-- no mark has more than two characters
pub at_most_two : (v : List ℕ) → is_mark v ≡ true → length v ≤ 2
at_most_two [] m = omega arith
at_most_two (a ∷ []) m = omega arith
at_most_two (a ∷ b ∷ []) m = omega arith
at_most_two (a ∷ b ∷ e ∷ v) m = let shape : false ≡ true = mark_shape (a ∷ b ∷ e ∷ v) m in absurd (cc)

-- where no pair begins so, a mark there is one character
one_long : (c : ℕ) (cs : List ℕ) → ((d : ℕ) (others : List ℕ) → cs ≡ d ∷ others → is_mark (c ∷ d ∷ []) ≡ false)
    → (v others : List ℕ) → is_mark v ≡ true → c ∷ cs ≡ v ++ others → length v ≤ 1
one_long c cs pair [] others m e = omega arith
one_long c cs pair (a ∷ []) others m e = omega arith
one_long c cs pair (a ∷ b ∷ []) others m e =
    let first : c ≡ a = cc in
    let second : cs ≡ b ∷ others = cc in
    let none : is_mark (c ∷ b ∷ []) ≡ false = pair b others second in
    let same : is_mark (c ∷ b ∷ []) ≡ is_mark (a ∷ b ∷ []) = ap (λ x. is_mark (x ∷ b ∷ [])) first in
    absurd (cc)
one_long c cs pair (a ∷ b ∷ f ∷ v) others m e = let shape : false ≡ true = mark_shape (a ∷ b ∷ f ∷ v) m in absurd (cc)

-- and where none of one character does either, none begins so
none_begins : (c : ℕ) (cs : List ℕ) → is_mark (c ∷ []) ≡ false → ((d : ℕ) (others : List ℕ) → cs ≡ d ∷ others → is_mark (c ∷ d ∷ []) ≡ false)
    → (v others : List ℕ) → is_mark v ≡ true → c ∷ cs ≡ v ++ others → ⊥
none_begins c cs one pair [] others m e = let shape : false ≡ true = mark_shape [] m in absurd (cc)
none_begins c cs one pair (a ∷ []) others m e =
    let first : c ≡ a = cc in
    let same : is_mark (c ∷ []) ≡ is_mark (a ∷ []) = ap (λ x. is_mark (x ∷ [])) first in
    absurd (cc)
none_begins c cs one pair (a ∷ b ∷ v) others m e =
    let short : length (a ∷ b ∷ v) ≤ 1 = one_long c cs pair (a ∷ b ∷ v) others m e in absurd (omega arith)

-- the tests before it have failed
pub record IsOther (c : ℕ) (cs : List ℕ) : Type 0 where
  pub not_blank : is_blank c ≡ false
  pub no_name : begins_name c ≡ false
  pub no_digit : is_ascii_digit c ≡ false
  pub no_quote : (c == quote) ≡ false
  pub no_comment : begins_comment (c ∷ cs) ≡ false

single_stands : (c : ℕ) (cs : List ℕ) → IsOther c cs → ((d : ℕ) (others : List ℕ) → cs ≡ d ∷ others → is_mark (c ∷ d ∷ []) ≡ false)
    → Stands (c ∷ cs) (single_front c)
unfolding single_front
single_stands c cs o pair = by_test (Stands (c ∷ cs)) (is_mark (c ∷ [])) _ _
    (λ m. token {w = c ∷ []} {rest = cs} (mark m o.no_comment (one_long c cs pair)) refl)
    (λ m. fault_here (c ∷ cs) flaw.BadChar (λ at. bad_char o.not_blank o.no_name o.no_digit o.no_quote (none_begins c cs m pair)))

pub mark_stands : (c : ℕ) (cs : List ℕ) → IsOther c cs → Stands (c ∷ cs) (mark_front (c ∷ cs))
unfolding mark_front
mark_stands c [] o = single_stands c [] o (λ d others e. absurd (cc))
mark_stands c (d ∷ cs) o = by_test (Stands (c ∷ d ∷ cs)) (is_mark (c ∷ d ∷ [])) _ _
    (λ m. token {w = c ∷ d ∷ []} {rest = cs} (mark m o.no_comment (λ v others n e. at_most_two v n)) refl)
    (λ m. single_stands c (d ∷ cs) o (λ x others e. let same : d ≡ x = cc in subst (λ y. is_mark (c ∷ y ∷ []) ≡ false) same m))
