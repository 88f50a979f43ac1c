use Rattle.std.proofs.Common.{length}
use Rattle.jn_lexer.proofs.Loop.{IsSoFar}
use Rattle.jn_lexer.proofs.pieces.Given as goal

abbrev pub invariant-loop-rest : goal.invariant-loop-rest
invariant-loop-rest l = IsSoFar l.cs l.at l.rest l.tokens.items

abbrev pub decreases-loop-rest : goal.decreases-loop-rest
decreases-loop-rest l = length l.rest
