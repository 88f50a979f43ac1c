use Rattle.jn_table.specs.Universes.{MembersUpTo}
use Rattle.jn_table.proofs.Nears.{bound}
use Rattle.jn_table.proofs.row.members_of.Given as goal

abbrev pub invariant-loop-number : goal.invariant-loop-number
invariant-loop-number l = MembersUpTo l.paths l.up (bound l.row l.number-index) l.all.items
