use Rattle.jn_share.proofs.KeyLists.{KeysTo}
use Rattle.jn_share.proofs.keys.keys_of.Given as goal

abbrev pub invariant-loop-m : goal.invariant-loop-m
invariant-loop-m l = KeysTo l.rows l.among l.m-index l.keys.items
