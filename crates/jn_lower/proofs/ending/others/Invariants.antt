use Rattle.std.proofs.Common.{◌≡◌, ◌++◌, take, drop}
use Rattle.jn_lower.proofs.ending.others.Given as goal

abbrev pub invariant-loop-k : goal.invariant-loop-k
invariant-loop-k l =
    take l.count l.x.kinds ++ (l.all ++ drop l.k-index l.k-items) ≡ l.x.kinds ++ l.x.spare
