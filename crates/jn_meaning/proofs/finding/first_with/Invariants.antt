use Rattle.jn_meaning.specs.Values.{path_at}
use Rattle.jn_meaning.proofs.OneSlots.{NoneSo}
use Rattle.jn_meaning.proofs.finding.first_with.Given as goal

abbrev pub invariant-loop-k : goal.invariant-loop-k
invariant-loop-k l = NoneSo l.w.program.now l.t.known.items (path_at l.t.known.items l.id) l.f l.k
