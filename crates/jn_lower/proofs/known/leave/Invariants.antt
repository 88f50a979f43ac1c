use Rattle.std.proofs.Common.{◌≡◌, take, length}
use Rattle.jn_lower.proofs.known.leave.Given as goal

abbrev pub invariant-loop-known : goal.invariant-loop-known
invariant-loop-known l = take l.count l.known.list ≡ take l.count l.fn.known.list

abbrev pub decreases-loop-known : goal.decreases-loop-known
decreases-loop-known l = length l.known.list
