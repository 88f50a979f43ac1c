use Rattle.std.proofs.Common.{◌≡◌, ◌++◌, false, length}
use Rattle.jn_parser.specs.Wording.{unescaped}
use Rattle.jn_parser.proofs.spelling.unescaped.Given as goal

-- what is read so far, in front of the others
abbrev pub invariant-byte : goal.invariant-byte
invariant-byte l = l.text.items ++ unescaped l.after_backslash l.rest ≡ unescaped false l.inner

abbrev pub decreases-byte : goal.decreases-byte
decreases-byte l = length l.rest
