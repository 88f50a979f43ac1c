use Rattle.std.proofs.Common.{◌≡◌, ◌++◌, drop, map}
use Rattle.jn_link.specs.Start.{sel_kind}
use Rattle.jn_link.proofs.lists.kinds_of.Given as goal

abbrev pub invariant-loop-sel : goal.invariant-loop-sel
invariant-loop-sel l = l.all ++ map sel_kind (drop l.sel-index l.names) ≡ map sel_kind l.names
