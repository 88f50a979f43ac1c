use Rattle.std.proofs.Common.{◌≡◌, take, map}
use Rattle.jn_index.specs.Index.{keys_in}
use Rattle.jn_table.specs.NamePlaces.{name_key}
use Rattle.jn_table.proofs.named.name_keys.Given as goal

abbrev pub invariant-loop-name : goal.invariant-loop-name
invariant-loop-name l = keys_in l.keys.items ≡ map name_key (take l.name-index l.names)
