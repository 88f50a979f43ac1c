use Rattle.jn_names.specs.MemberRows.{FieldlessTo}
use Rattle.jn_names.proofs.members.first_field.Given as goal

abbrev pub invariant-loop-s : goal.invariant-loop-s
invariant-loop-s l = FieldlessTo l.ids l.among l.but l.s-index
