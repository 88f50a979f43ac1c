use Rattle.std.proofs.Common.{take}
use Rattle.jn_reach.specs.Each.{Each}
use Rattle.jn_share.specs.Keys.{SlotFor}
use Rattle.jn_share.proofs.keys.slot_row.Given as goal

abbrev pub invariant-loop-x : goal.invariant-loop-x
invariant-loop-x l = Each (SlotFor l.keys) (take l.x-index l.fields) l.slots.items
