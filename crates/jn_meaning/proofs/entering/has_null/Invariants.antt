use Rattle.jn_meaning.proofs.CalledFrames.{NoneNull}
use Rattle.jn_meaning.proofs.entering.has_null.Given as goal

abbrev pub invariant-loop-i : goal.invariant-loop-i
invariant-loop-i l = NoneNull l.locals l.i
