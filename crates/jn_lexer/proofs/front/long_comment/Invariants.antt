use Rattle.std.proofs.Common.{◌≡◌, ◌≤◌, ◌+◌, length, false}
use Rattle.jn_lexer.specs.Front.{long_comment_front}
use Rattle.jn_lexer.proofs.front.long_comment.Given as goal

abbrev pub invariant-loop-rest : goal.invariant-loop-rest
invariant-loop-rest l = (long_comment_front l.starred l.len l.rest ≡ long_comment_front false 2 l.cs) × (l.len + length l.rest ≤ length l.cs + 2)

abbrev pub decreases-loop-rest : goal.decreases-loop-rest
decreases-loop-rest l = length l.rest
