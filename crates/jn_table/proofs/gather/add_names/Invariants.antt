use Rattle.std.proofs.Common.{take, Contains}
use Rattle.jn_table.specs.Gather.{Gains}
use Rattle.jn_table.proofs.gather.add_names.Given as goal

abbrev pub invariant-loop-name : goal.invariant-loop-name
invariant-loop-name l = Gains (Contains (take l.name-index l.names)) l.initial.all.items l.all.items
