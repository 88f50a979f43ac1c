use Rattle.std.proofs.Common.{take}
use Rattle.jn_layout.specs.Selecting.{AreMethodSels}
use Rattle.jn_layout.proofs.selecting.method_sels.Given as goal

abbrev pub invariant-loop-k : goal.invariant-loop-k
invariant-loop-k l = AreMethodSels (take l.k l.bodies) l.all
