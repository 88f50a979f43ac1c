use Rattle.jn_layout.proofs.PartProof.{NotTo}
use Rattle.jn_layout.proofs.parts.place_of.Given as goal

abbrev pub invariant-loop-place : goal.invariant-loop-place
invariant-loop-place l = NotTo l.firsts l.first l.place
