use Rattle.std.proofs.Common.{◌≡◌, ◌++◌, drop, map}
use Rattle.jn_base.specs.Paths.{fields}
use Rattle.jn_table.specs.Flat.{field_name}
use Rattle.jn_table.proofs.entry.field_names.Given as goal

abbrev pub invariant-loop-member : goal.invariant-loop-member
invariant-loop-member l =
    l.all ++ map field_name (fields (drop l.member-index l.members)) ≡ map field_name (fields l.members)
