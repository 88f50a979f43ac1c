use Rattle.std.proofs.Common.{◌≡◌, ◌++◌, take}
use Rattle.jn_meaning.proofs.seen.joined.Given as goal

abbrev pub invariant-loop-name : goal.invariant-loop-name
invariant-loop-name l = l.names ≡ l.one ++ take l.name-index l.other
