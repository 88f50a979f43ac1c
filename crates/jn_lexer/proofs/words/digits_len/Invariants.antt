use Rattle.std.proofs.Common.{length, ◌-◌, ◌+◌, ◌≡◌, ◌≤◌, drop}
use Rattle.std.specs.Char.{is_ascii_digit}
use Rattle.std.specs.List.{prefix_len}
use Rattle.jn_lexer.proofs.words.digits_len.Given as goal

-- the characters so far pass
abbrev pub invariant-loop-len : goal.invariant-loop-len
invariant-loop-len l = (l.len ≤ length l.cs) × (prefix_len is_ascii_digit l.cs ≡ l.len + prefix_len is_ascii_digit (drop l.len l.cs))

abbrev pub decreases-loop-len : goal.decreases-loop-len
decreases-loop-len l = length l.cs - l.len
