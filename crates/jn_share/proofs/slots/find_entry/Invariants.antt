use Rattle.std.proofs.Common.{◌≡◌}
use Rattle.jn_reach.proofs.Searches.{NoneBefore}
use Rattle.jn_share.specs.declared.slots.FieldSlot.{FieldSlot}
use Rattle.jn_share.proofs.slots.find_entry.Given as goal

abbrev pub invariant-loop-entry : goal.invariant-loop-entry
invariant-loop-entry l = NoneBefore (λ (x : FieldSlot). x.field ≡ l.field) l.entries l.entry-index
