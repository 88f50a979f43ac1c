use Rattle.std.proofs.Common.{◌≡◌, ◌++◌, drop, map}
use Rattle.jn_table.specs.Places.{name_number}
use Rattle.jn_table.proofs.route.numbers_of.Given as goal

abbrev pub invariant-loop-name : goal.invariant-loop-name
invariant-loop-name l = l.numbers.items ++ map name_number (drop l.name-index l.names) ≡ map name_number l.names
