use Rattle.std.proofs.Common.{◌≡◌, take, map}
use Rattle.jn_index.specs.Index.{keys_in}
use Rattle.jn_layout.specs.Keys.{shape_key}
use Rattle.jn_layout.proofs.keys.shape_keys.Given as goal

abbrev pub invariant-loop-x : goal.invariant-loop-x
invariant-loop-x l = keys_in l.all.items ≡ map shape_key (take l.x-index l.bodies)
