use Rattle.std.proofs.Common.{◌≡◌, ◌++◌, drop, map}
use Rattle.jn_table.specs.Flat.{named_name}
use Rattle.jn_table.proofs.entry.extended.Given as goal

abbrev pub invariant-loop-named : goal.invariant-loop-named
invariant-loop-named l = l.all ++ map named_name (drop l.named-index l.names) ≡ map named_name l.names
