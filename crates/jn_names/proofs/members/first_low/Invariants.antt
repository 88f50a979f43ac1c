use Rattle.jn_names.specs.MemberRows.{PassedTo}
use Rattle.jn_names.proofs.members.first_low.Given as goal

abbrev pub invariant-loop-s : goal.invariant-loop-s
invariant-loop-s l = PassedTo l.rows l.ids l.among l.but l.s-index
