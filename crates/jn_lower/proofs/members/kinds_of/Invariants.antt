use Rattle.std.proofs.Common.{◌≡◌, map, take}
use Rattle.jn_lower.specs.Written.{param_kind}
use Rattle.jn_lower.proofs.members.kinds_of.Given as goal

abbrev pub invariant-loop-x : goal.invariant-loop-x
invariant-loop-x l = l.all.items ≡ map param_kind (take l.x-index l.params)
