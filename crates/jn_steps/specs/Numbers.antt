-- Numbers of 64 bits with a sign, as the meaning and the machine reckon with them, and the lines that are printed.
use Rattle.std.specs.Prelude.{ℕ, zero, suc, List, [], ◌∷◌, ◌++◌, ℤ, pos, negsuc, ◌+ℤ◌, ◌-ℤ◌, ◌*ℤ◌, neg_ℤ, int_rem, Bool, true, false, Option, Some, None, codes}
use Rattle.std.specs.Int.{w64, int_wrap, int_wrapping_div}
use Rattle.std.specs.Fmt.{signed_decimal}

-- what does not fit wraps
abbrev pub sum_of : ℤ → ℤ → ℤ
sum_of x y = int_wrap w64 (x +ℤ y)

abbrev pub difference_of : ℤ → ℤ → ℤ
difference_of x y = int_wrap w64 (x -ℤ y)

abbrev pub product_of : ℤ → ℤ → ℤ
product_of x y = int_wrap w64 (x *ℤ y)

abbrev pub negation_of : ℤ → ℤ
negation_of x = int_wrap w64 (neg_ℤ x)

-- toward 0, and none by 0
abbrev pub quotient_of : ℤ → ℤ → Option ℤ
quotient_of x (pos zero) = None
quotient_of x (pos (suc n)) = Some (int_wrapping_div w64 x (pos (suc n)))
quotient_of x (negsuc n) = Some (int_wrapping_div w64 x (negsuc n))

-- it has the sign of the dividend
abbrev pub remainder_of : ℤ → ℤ → Option ℤ
remainder_of x (pos zero) = None
remainder_of x (pos (suc n)) = Some (int_rem x (pos (suc n)))
remainder_of x (negsuc n) = Some (int_rem x (negsuc n))

-- a text, and a line feed
abbrev pub line_of : List ℕ → List ℕ
line_of bytes = bytes ++ 10 ∷ []

-- a number in decimal
abbrev pub number_line : ℤ → List ℕ
number_line z = line_of (signed_decimal z)

abbrev pub truth_line : Bool → List ℕ
truth_line true = line_of (codes "true")
truth_line false = line_of (codes "false")
