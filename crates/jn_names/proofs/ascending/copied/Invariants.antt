use Rattle.std.proofs.Common.{◌≡◌, take}
use Rattle.jn_names.proofs.ascending.copied.Given as goal

abbrev pub invariant-loop-id : goal.invariant-loop-id
invariant-loop-id l = l.all.items ≡ take l.id-index l.ids
