use Rattle.std.proofs.Common.{take}
use Rattle.jn_table.specs.Gather.{Gains}
use Rattle.jn_table.specs.NamePlaces.{PlacedAmong}
use Rattle.jn_table.proofs.named.add_placed.Given as goal

abbrev pub invariant-loop-number : goal.invariant-loop-number
invariant-loop-number l = Gains (PlacedAmong l.places (take l.number-index l.row)) l.initial.all.items l.all.items
