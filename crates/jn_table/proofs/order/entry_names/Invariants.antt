use Rattle.std.proofs.Common.{◌≡◌, ◌++◌, drop, map}
use Rattle.jn_table.specs.Order.{entry_name}
use Rattle.jn_table.proofs.order.entry_names.Given as goal

abbrev pub invariant-loop-entry : goal.invariant-loop-entry
invariant-loop-entry l = l.all.items ++ map entry_name (drop l.entry-index l.entries) ≡ map entry_name l.entries
