use Rattle.jn_rules.specs.Members.{FailsAt}
use Rattle.jn_header.proofs.Numbers.{NoneAt}
use Rattle.jn_header.proofs.constraints.first_refused.Given as goal

abbrev pub invariant-loop-k : goal.invariant-loop-k
invariant-loop-k l = NoneAt (FailsAt l.p) l.t.known.items l.k
