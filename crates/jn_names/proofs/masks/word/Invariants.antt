use Rattle.jn_names.proofs.MaskProof.{WordTo}
use Rattle.jn_names.proofs.masks.word.Given as goal

abbrev pub invariant-loop-b : goal.invariant-loop-b
invariant-loop-b l = WordTo l.names l.masks l.from l.b l.word
