use Rattle.jn_share.proofs.KeyLists.{OwnTo}
use Rattle.jn_share.proofs.keys.own_keys.Given as goal

abbrev pub invariant-loop-x : goal.invariant-loop-x
invariant-loop-x l = OwnTo l.row l.m l.x-index l.fn.keys.items l.keys.items
