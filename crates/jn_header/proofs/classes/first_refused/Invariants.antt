use Rattle.jn_rules.specs.Members.{BadClass}
use Rattle.jn_header.proofs.Numbers.{NoneAt}
use Rattle.jn_header.proofs.classes.first_refused.Given as goal

abbrev pub invariant-loop-k : goal.invariant-loop-k
invariant-loop-k l = NoneAt (BadClass l.p) l.t.known.items l.k
