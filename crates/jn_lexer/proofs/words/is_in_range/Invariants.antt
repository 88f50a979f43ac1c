use Rattle.std.proofs.Common.{◌≡◌, ◌≤◌, ◌+◌, take}
use Rattle.jn_base.specs.Tokens.{digits_value, greatest_number}
use Rattle.jn_lexer.proofs.words.is_in_range.Given as goal

-- the value of the digits so far
abbrev pub invariant-loop-c : goal.invariant-loop-c
invariant-loop-c l = (l.value ≡ digits_value (take l.c-index l.digits)) × (l.value ≤ greatest_number + 2)
