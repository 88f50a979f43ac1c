use Rattle.std.proofs.Common.{◌-◌, length}
use Rattle.jn_closure.proofs.Searching.{Searched}
use Rattle.jn_closure.proofs.rows.search.Given as goal

abbrev pub invariant-loop-next : goal.invariant-loop-next
invariant-loop-next l = Searched l.edges l.start l.next l.marks.items l.nodes.items

abbrev pub decreases-loop-next : goal.decreases-loop-next
decreases-loop-next l = length l.edges - l.next
