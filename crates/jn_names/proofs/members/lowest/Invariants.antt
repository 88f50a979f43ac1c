use Rattle.std.proofs.Common.{IfSome}
use Rattle.jn_names.specs.MemberRows.{IsOneRow}
use Rattle.jn_names.proofs.members.lowest.Given as goal

abbrev pub invariant-loop-s : goal.invariant-loop-s
invariant-loop-s l = IfSome l.low (IsOneRow l.ids l.among)
