use Rattle.std.proofs.Common.{take}
use Rattle.jn_table.specs.Children.{AddsPicked}
use Rattle.jn_table.proofs.children.add_picked.Given as goal

abbrev pub invariant-loop-place : goal.invariant-loop-place
invariant-loop-place l =
    AddsPicked l.order (take l.place-index l.picked) l.up l.room l.initial.all.items l.all.items
