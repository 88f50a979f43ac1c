use Rattle.jn_names.proofs.TypeProof.{DeepTo}
use Rattle.jn_names.proofs.types.one_depth.Given as goal

abbrev pub invariant-loop-i : goal.invariant-loop-i
invariant-loop-i l = DeepTo l.bounds l.i
