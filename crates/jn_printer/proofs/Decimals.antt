-- A number in decimal is a good number of the tokens, of its own value.
use Rattle.std.proofs.Common.{◌≡◌, ℕ, ◌+◌, ◌*◌, ◌-◌, ◌<◌, ◌≤◌, Bool, true, false, not, ◌&&◌, ◌==◌, List, [], ◌∷◌, map, fold, get_or, decimal, nat_le, refl, sym, ap, ap₂, subst, ◌∙◌, arith, ◌⊎◌, inl, inr, eq-zero-or-pos}
use Rattle.std.proofs.lemmas.Bool.Decides.{nat_tests}
use Rattle.std.proofs.lemmas.Fmt.{decimal_digit, decimal-digits_of}
use Rattle.std.proofs.lemmas.Int.Digits.{all_below_base_digits_of, first_digits_of, number_digits_of}
use Rattle.std.specs.Int.Digits.{digits_of, number_from_digits, number_from_digits_after, AllBelowBase}
use Rattle.std.specs.Char.{is_ascii_digit}
use Rattle.std.specs.List.{list_all}
use Rattle.jn_base.specs.Tokens.{zero_digit, digits_value, greatest_number, has_leading_zero, is_good_number}

abbrev as_digits : List ℕ → List ℕ
as_digits ds = map (λ d. 48 + d) ds

one_digit : (d : ℕ) → d < 10 → is_ascii_digit (48 + d) ≡ true
one_digit d h = grind (arith, nat_tests)

all_digits : (ds : List ℕ) → AllBelowBase 10 ds → list_all is_ascii_digit (as_digits ds) ≡ true
all_digits [] h = refl
all_digits (d ∷ ds) h = ap₂ (λ (a b : Bool). a && b) (one_digit d h.0) (all_digits ds h.1)

value_after : (n : ℕ) (ds : List ℕ) → fold (λ value c. 10 * value + (c - zero_digit)) n (as_digits ds) ≡ number_from_digits_after 10 n ds
value_after n [] = refl
value_after n (d ∷ ds) =
    let same : 10 * n + ((48 + d) - 48) ≡ n * 10 + d = omega arith in
    ap (λ (m : ℕ). fold (λ value c. 10 * value + (c - zero_digit)) m (as_digits ds)) same ∙ value_after (n * 10 + d) ds

pub record Decimal (n : ℕ) : Type 0 where
  pub first : ℕ
  pub others : List ℕ
  pub text : decimal n ≡ first ∷ others
  pub digits : list_all is_ascii_digit (first ∷ others) ≡ true
  pub good : is_good_number (first ∷ others) ≡ true
  pub value : digits_value (first ∷ others) ≡ n

no_zero : (d : ℕ) (w : List ℕ) → 0 < d → has_leading_zero ((48 + d) ∷ w) ≡ false
no_zero d [] h = refl
no_zero d (c ∷ w) h = lemma d h where
  lemma : (d : ℕ) → 0 < d → ((48 + d) == zero_digit) ≡ false
  lemma d h = grind (arith, nat_tests)

at_most : (v n : ℕ) → v ≡ n → n ≤ greatest_number → nat_le v greatest_number ≡ true
at_most v n e h = ap (λ x. nat_le x greatest_number) e ∙ lemma n greatest_number h where
  lemma : (n g : ℕ) → n ≤ g → nat_le n g ≡ true
  lemma n g h = grind (arith, nat_tests)

from_digits : (n : ℕ) (ds : List ℕ) → decimal n ≡ as_digits ds → AllBelowBase 10 ds → 0 < get_or ds 0 0 → number_from_digits 10 ds ≡ n → n ≤ greatest_number → Decimal n
from_digits n [] t all pos is h = absurd (omega (arith, pos))
from_digits n (d ∷ ds) t all pos is h =
    let v : digits_value (as_digits (d ∷ ds)) ≡ n = value_after 0 (d ∷ ds) ∙ is in
    record {
      first = 48 + d;
      others = as_digits ds;
      text = t;
      digits = all_digits (d ∷ ds) all;
      good = ap₂ (λ (a b : Bool). not a && b) (no_zero d (as_digits ds) pos) (at_most (digits_value (as_digits (d ∷ ds))) n v h);
      value = v;
    }

pub decimal_is : (n : ℕ) → n ≤ greatest_number → Decimal n
decimal_is n h = by (eq-zero-or-pos n) where
  at_zero : Decimal 0
  at_zero = record { first = 48; others = []; text = decimal_digit 0 (omega arith); digits = refl; good = refl; value = refl }

  by : (n ≡ 0) ⊎ (0 < n) → Decimal n
  by (inl z) = subst Decimal (sym z) at_zero
  by (inr p) =
      from_digits n (digits_of 10 n) (decimal-digits_of n p (let g : n ≤ 9_223_372_036_854_775_807 = h in omega (arith, g)))
      (all_below_base_digits_of 10 n (omega arith)) (first_digits_of 10 n (omega arith) p) (number_digits_of 10 n (omega arith)) h
