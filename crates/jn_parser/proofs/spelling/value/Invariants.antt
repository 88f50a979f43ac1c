use Rattle.std.proofs.Common.{◌≡◌, length}
use Rattle.std.specs.Char.{is_ascii_digit}
use Rattle.std.specs.List.{AllPass}
use Rattle.jn_base.specs.Tokens.{digits_value}
use Rattle.jn_parser.proofs.Values.{value_from}
use Rattle.jn_parser.proofs.spelling.value.Given as goal

abbrev pub invariant-digit : goal.invariant-digit
invariant-digit l = record { so_far : value_from l.value l.rest ≡ digits_value l.digits; digits : AllPass is_ascii_digit l.rest }

abbrev pub decreases-digit : goal.decreases-digit
decreases-digit l = length l.rest
