use Rattle.std.proofs.Common.{length, ◌-◌, ◌+◌, ◌≡◌, ◌≤◌, ◌==◌, not, drop}
use Rattle.std.specs.List.{prefix_len}
use Rattle.jn_base.specs.Tokens.{line_feed}
use Rattle.jn_lexer.proofs.words.line_len.Given as goal

-- the characters so far pass
abbrev pub invariant-loop-len : goal.invariant-loop-len
invariant-loop-len l = (l.len ≤ length l.cs) × (prefix_len (λ d. not (d == line_feed)) l.cs ≡ l.len + prefix_len (λ d. not (d == line_feed)) (drop l.len l.cs))

abbrev pub decreases-loop-len : goal.decreases-loop-len
decreases-loop-len l = length l.cs - l.len
