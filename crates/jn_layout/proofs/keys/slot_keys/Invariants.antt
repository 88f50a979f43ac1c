use Rattle.std.proofs.Common.{◌≡◌, take, map}
use Rattle.jn_index.specs.Index.{keys_in}
use Rattle.jn_layout.specs.Keys.{slot_key}
use Rattle.jn_layout.proofs.keys.slot_keys.Given as goal

abbrev pub invariant-loop-sel : goal.invariant-loop-sel
invariant-loop-sel l = keys_in l.all.items ≡ map slot_key (take l.sel-index l.names)
