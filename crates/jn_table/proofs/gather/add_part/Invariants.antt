use Rattle.std.proofs.Common.{take}
use Rattle.jn_table.specs.Gather.{Gains, PartAmong}
use Rattle.jn_table.proofs.gather.add_part.Given as goal

abbrev pub invariant-loop-number : goal.invariant-loop-number
invariant-loop-number l =
    Gains (PartAmong l.entries l.name l.part (take l.number-index l.row)) l.initial.all.items l.all.items
