use Rattle.jn_share.proofs.KeyLists.{NotTo}
use Rattle.jn_share.proofs.keys.key_place.Given as goal

abbrev pub invariant-loop-i : goal.invariant-loop-i
invariant-loop-i l = NotTo l.keys (record { class = l.class; field = l.field }) l.i
