use Rattle.std.proofs.Common.{◌≡◌, ◌++◌, drop, map}
use Rattle.jn_base.specs.Paths.{methods}
use Rattle.jn_table.specs.Flat.{method_name}
use Rattle.jn_table.proofs.entry.method_names.Given as goal

abbrev pub invariant-loop-member : goal.invariant-loop-member
invariant-loop-member l =
    l.all ++ map method_name (methods (drop l.member-index l.members)) ≡ map method_name (methods l.members)
