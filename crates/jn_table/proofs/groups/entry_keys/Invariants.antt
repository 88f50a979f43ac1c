use Rattle.std.proofs.Common.{◌≡◌, take, map}
use Rattle.jn_index.specs.Index.{keys_in}
use Rattle.jn_table.specs.Groups.{entry_key}
use Rattle.jn_table.proofs.groups.entry_keys.Given as goal

abbrev pub invariant-loop-entry : goal.invariant-loop-entry
invariant-loop-entry l = keys_in l.keys.items ≡ map entry_key (take l.entry-index l.entries)
