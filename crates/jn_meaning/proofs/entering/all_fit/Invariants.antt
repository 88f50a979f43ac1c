use Rattle.jn_meaning.proofs.CalledFrames.{FirstFit}
use Rattle.jn_meaning.proofs.entering.all_fit.Given as goal

abbrev pub invariant-loop-i : goal.invariant-loop-i
invariant-loop-i l = FirstFit l.w.program.now l.t.known.items l.h l.f l.i
