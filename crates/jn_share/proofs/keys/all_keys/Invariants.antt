use Rattle.std.proofs.Common.{take}
use Rattle.jn_share.specs.Keys.{KeysFor}
use Rattle.jn_share.proofs.keys.all_keys.Given as goal

abbrev pub invariant-loop-numbers : goal.invariant-loop-numbers
invariant-loop-numbers l = KeysFor l.rows (take l.numbers-index l.lists.numbers.items) l.keys.items
