use Rattle.jn_reach.proofs.Searches.{NoneBefore}
use Rattle.jn_names.proofs.MemberRowProof.{StandsLower}
use Rattle.jn_names.proofs.members.has_lower.Given as goal

abbrev pub invariant-loop-t : goal.invariant-loop-t
invariant-loop-t l = NoneBefore (StandsLower l.rows l.among l.s) l.ids l.t-index
