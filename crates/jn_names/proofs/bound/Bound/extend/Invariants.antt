use Rattle.std.proofs.Common.{◌≡◌, ◌++◌, reverse, take}
use Rattle.jn_names.proofs.bound.Bound.extend.Given as goal

abbrev pub invariant-loop-name : goal.invariant-loop-name
invariant-loop-name l = l.self ≡ reverse (take l.name-index l.names) ++ l.fn.self
