use Rattle.std.proofs.Common.{length, ◌-◌, ◌+◌, ◌≡◌, ◌≤◌, drop}
use Rattle.std.specs.List.{prefix_len}
use Rattle.jn_base.specs.Tokens.{continues_name}
use Rattle.jn_lexer.proofs.words.name_len.Given as goal

-- the characters so far pass
abbrev pub invariant-loop-len : goal.invariant-loop-len
invariant-loop-len l = (l.len ≤ length l.cs) × (prefix_len continues_name l.cs ≡ l.len + prefix_len continues_name (drop l.len l.cs))

abbrev pub decreases-loop-len : goal.decreases-loop-len
decreases-loop-len l = length l.cs - l.len
