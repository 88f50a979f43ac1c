-- The number that digits stand for.
use Rattle.std.proofs.Common.{◌≡◌, ℕ, suc, ◌+◌, ◌*◌, ◌-◌, ◌≤◌, true, List, [], ◌∷◌, fold, sym, ◌∙◌, ap, subst, arith}
use Rattle.std.specs.Char.{is_ascii_digit}
use Rattle.std.specs.List.{AllPass}
use Rattle.std.proofs.lemmas.Bool.Decides.{nat_tests}

-- ... behind digits that stand for v
abbrev pub value_from : ℕ → List ℕ → ℕ
value_from v w = fold (λ value c. 10 * value + (c - 48)) v w

pub value_grows : (v : ℕ) (w : List ℕ) → v ≤ value_from v w
value_grows v [] = omega arith
value_grows v (c ∷ w) = let more = value_grows (10 * v + (c - 48)) w in omega (arith, more)

pub is_digit : (c : ℕ) (w : List ℕ) → AllPass is_ascii_digit (c ∷ w) → (48 ≤ c) × (c ≤ 57)
is_digit c w h = let digit : is_ascii_digit c ≡ true = h 0 c (omega arith) in (grind (arith, nat_tests), grind (arith, nat_tests))

pub digits_behind : (c : ℕ) (w : List ℕ) → AllPass is_ascii_digit (c ∷ w) → AllPass is_ascii_digit w
digits_behind c w h = λ k d l. h (suc k) d (omega arith)

-- one more digit, which stands first in what is left
pub value_step : (v : ℕ) (rest : List ℕ) (c : ℕ) (w : List ℕ) (total : ℕ) → rest ≡ c ∷ w → value_from v rest ≡ total → value_from (10 * v + (c - 48)) w ≡ total
value_step v rest c w total e s = sym (ap (value_from v) e) ∙ s

pub value_fits : (v : ℕ) (rest : List ℕ) (c : ℕ) (w : List ℕ) (total : ℕ) → rest ≡ c ∷ w → value_from v rest ≡ total → 10 * v + (c - 48) ≤ total
value_fits v rest c w total e s = let more = value_grows (10 * v + (c - 48)) w in omega (arith, more, value_step v rest c w total e s)

pub digits_left : (rest : List ℕ) (c : ℕ) (w : List ℕ) → rest ≡ c ∷ w → AllPass is_ascii_digit rest → AllPass is_ascii_digit w
digits_left rest c w e h = digits_behind c w (subst (AllPass is_ascii_digit) e h)
