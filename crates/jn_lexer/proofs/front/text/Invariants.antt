use Rattle.std.proofs.Common.{◌≡◌, ◌≤◌, ◌+◌, length, false, if◌then◌else◌}
use Rattle.jn_lexer.specs.Front.{text_front}
use Rattle.jn_lexer.proofs.front.text.Given as goal

abbrev pub invariant-loop-rest : goal.invariant-loop-rest
invariant-loop-rest l = (text_front l.escaped l.len l.rest ≡ text_front false 1 l.cs) × (l.len + (if l.escaped then 1 else 0) + length l.rest ≤ length l.cs + 1)

abbrev pub decreases-loop-rest : goal.decreases-loop-rest
decreases-loop-rest l = length l.rest
