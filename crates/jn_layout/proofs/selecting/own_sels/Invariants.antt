use Rattle.std.proofs.Common.{take}
use Rattle.jn_reach.specs.Each.{Each}
use Rattle.jn_layout.specs.Selecting.{SelectsOwn}
use Rattle.jn_layout.proofs.selecting.own_sels.Given as goal

abbrev pub invariant-loop-x : goal.invariant-loop-x
invariant-loop-x l = Each (SelectsOwn l.s) (take l.x-index l.fields) l.all.items
