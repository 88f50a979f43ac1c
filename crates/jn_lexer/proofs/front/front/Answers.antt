use Rattle.std.specs.Char.{is_ascii_digit}
use Rattle.jn_lexer.proofs.Digits.{run_passes}
use Rattle.jn_lexer.proofs.front.front.Goals as goal

pub number-requires-clause-digits : goal.number-requires-clause-digits
number-requires-clause-digits c = run_passes is_ascii_digit c.args.cs.now c.digits_len.result c.digits_len.ensures.value
