use Rattle.jn_names.specs.MemberRows.{AboveTo}
use Rattle.jn_names.proofs.members.are_above.Given as goal

abbrev pub invariant-loop-s : goal.invariant-loop-s
invariant-loop-s l = AboveTo l.rows l.ids l.among l.a l.s-index
