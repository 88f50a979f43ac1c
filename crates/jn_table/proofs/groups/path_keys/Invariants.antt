use Rattle.std.proofs.Common.{◌≡◌, take, map}
use Rattle.jn_index.specs.Index.{keys_in}
use Rattle.jn_table.specs.Places.{path_key}
use Rattle.jn_table.proofs.groups.path_keys.Given as goal

abbrev pub invariant-loop-path : goal.invariant-loop-path
invariant-loop-path l = keys_in l.keys.items ≡ map path_key (take l.path-index l.paths)
