use Rattle.std.proofs.Common.{◌≡◌, take, map}
use Rattle.jn_index.specs.Index.{keys_in}
use Rattle.jn_table.specs.Level.{child_key}
use Rattle.jn_table.proofs.level.child_keys.Given as goal

abbrev pub invariant-loop-child : goal.invariant-loop-child
invariant-loop-child l = keys_in l.keys.items ≡ map child_key (take l.child-index l.children)
