use Rattle.std.proofs.Common.{◌≡◌, take, map}
use Rattle.jn_index.specs.Index.{keys_in}
use Rattle.jn_layout.specs.Keys.{sel_key}
use Rattle.jn_layout.proofs.finder.sel_keys.Given as goal

abbrev pub invariant-loop-sel : goal.invariant-loop-sel
invariant-loop-sel l = keys_in l.all.items ≡ map sel_key (take l.sel-index l.names)
