use Rattle.std.proofs.Common.{◌≡◌, take, map}
use Rattle.jn_index.specs.Index.{keys_in, numbers_of}
use Rattle.jn_table.proofs.groups.copied.Given as goal

abbrev pub invariant-loop-key : goal.invariant-loop-key
invariant-loop-key l = keys_in l.all.items ≡ map numbers_of (take l.key-index l.keys)
