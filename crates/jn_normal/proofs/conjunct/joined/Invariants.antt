use Rattle.std.proofs.Common.{◌≡◌, ◌++◌, drop}
use Rattle.jn_normal.proofs.conjunct.joined.Given as goal

abbrev pub invariant-loop-name : goal.invariant-loop-name
invariant-loop-name l = l.all ++ drop l.name-index l.back ≡ l.front ++ l.back
