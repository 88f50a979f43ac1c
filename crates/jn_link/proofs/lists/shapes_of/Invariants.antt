use Rattle.std.proofs.Common.{◌≡◌, ◌++◌, drop, map}
use Rattle.jn_link.specs.Start.{sel_shape}
use Rattle.jn_link.proofs.lists.shapes_of.Given as goal

abbrev pub invariant-loop-sel : goal.invariant-loop-sel
invariant-loop-sel l = l.all ++ map sel_shape (drop l.sel-index l.names) ≡ map sel_shape l.names
