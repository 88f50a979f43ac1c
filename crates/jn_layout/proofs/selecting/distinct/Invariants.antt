use Rattle.std.proofs.Common.{take}
use Rattle.jn_layout.specs.Selecting.{Selects, IsSame}
use Rattle.jn_layout.proofs.selecting.distinct.Given as goal

abbrev pub invariant-loop-k : goal.invariant-loop-k
invariant-loop-k l = Selects IsSame (take l.k l.own) l.all
