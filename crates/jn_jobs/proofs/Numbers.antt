-- What the number of a text and the rows of the parser's matches give to the code.
use Rattle.std.proofs.Common.{◌≡◌, ◌∙◌, ℕ, ◌<◌, ◌≤◌, ◌^◌, arith, Bool, true, false, ◌&&◌, refl, ap, List, [], ◌∷◌, length, Option, Result, Ok}
use Rattle.std.specs.Prelude.{option_map, option_and_then, unwrap_or, nat_le}
use Rattle.std.specs.List.{list_all}
use Rattle.std.specs.Char.{is_ascii_digit, digit_value}
use Rattle.std.specs.Str.Parse.{AllDigits, ParsesUnsigned, digits_value}
use Rattle.std.proofs.lemmas.Str.{digit_value_digit}
use Rattle.std.proofs.lemmas.Str.Parse.{numerals_by_value, parse_gives, tells_digits}
use Rattle.std.proofs.lemmas.Int.Digits.{digits_value-lt}
use Rattle.std.proofs.lemmas.Bool.Decides.{nat_tests}
use Rattle.std.proofs.Math.Nat.{pow-le-pow_right}
use Rattle.clap.specs.Matches.{matched_of, raw_values}
use Rattle.clap.specs.Walk.{Text, rows_of}
use Rattle.clap.specs.declared.parser.matches.Found.{Found}
use Rattle.clap.proofs.WalkLemmas.{raw_values-rows}
use Rattle.jn_jobs.specs.Parts.{Parts}
use Rattle.jn_jobs.specs.Jobs.{Target, arena_in, depth_in, is_digits, job_in, steps_in, target_in, with_bounds}
use Rattle.jn_jobs.specs.Command.{values_of}

both : (a b : Bool) → (a && b) ≡ true → (a ≡ true) × (b ≡ true)
both true b e = (refl, e)
both false b e = absurd cc

digit_is : (c : ℕ) → is_ascii_digit c ≡ true → digit_value c < 10
digit_is c e =
    let h = both (nat_le 48 c) (nat_le c 57) e in
    let from : 48 ≤ c = grind (arith, nat_tests, h.0) in
    let to : c ≤ 57 = grind (arith, nat_tests, h.1) in
    omega (arith, digit_value_digit c (from, to))

digits_are : (ds : List ℕ) → list_all is_ascii_digit ds ≡ true → AllDigits 10 ds
digits_are [] e = tt
digits_are (c ∷ cs) e =
    let h = both (is_ascii_digit c) (list_all is_ascii_digit cs) e in
    (digit_is c h.0, digits_are cs h.1)

-- A text of at most thirteen digits is read as its number.
pub read_as_number : {E : Type 0} (most : ℕ) (bs : List ℕ) (r : Result ℕ E) → most ≤ 13 → is_digits most bs ≡ true → ParsesUnsigned 64 10 bs r → r ≡ Ok (digits_value 10 bs)
read_as_number most bs r few digits h =
    let first = both (nat_le 1 (length bs)) (nat_le (length bs) most && list_all is_ascii_digit bs) digits in
    let then = both (nat_le (length bs) most) (list_all is_ascii_digit bs) first.1 in
    let all = digits_are bs then.1 in
    let some : 0 < length bs = grind (arith, nat_tests, first.0) in
    let short : length bs ≤ most = grind (arith, nat_tests, then.0) in
    let least : 0 < 10 = omega arith in
    let at_most : length bs ≤ 13 = omega (arith, short, few) in
    let below : 10 ^ length bs ≤ 10 ^ 13 = pow-le-pow_right least at_most in
    let fits : 10 ^ 13 ≤ 2 ^ 64 = omega arith in
    parse_gives (numerals_by_value (AllDigits 10) tells_digits) 64 bs r h all some (omega (arith, digits_value-lt 10 bs all, below, fits))

-- The values of an id.
pub values_are : (f : Found) (id : Text) (o : Option (List Text)) → o ≡ option_map raw_values (matched_of f id) → unwrap_or o [] ≡ values_of id (rows_of f)
values_are f id o e = ap (λ (x : Option (List Text)). unwrap_or x []) (e ∙ raw_values-rows f id)

-- The job of its parts.
pub job_by : (p : Parts) (t : Option Target) (arena depth steps : Option ℕ) → t ≡ target_in p.positional → arena ≡ arena_in p → depth ≡ depth_in p → steps ≡ steps_in p
    → option_and_then (with_bounds arena depth steps) t ≡ job_in p
job_by p t arena depth steps a b c d = rw (a, b, c, d) refl
