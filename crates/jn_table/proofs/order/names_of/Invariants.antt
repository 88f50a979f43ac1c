use Rattle.std.proofs.Common.{◌≡◌, ◌++◌, drop, map}
use Rattle.jn_table.specs.Order.{spelled_name}
use Rattle.jn_table.proofs.order.names_of.Given as goal

abbrev pub invariant-loop-one : goal.invariant-loop-one
invariant-loop-one l = l.order.items ++ map spelled_name (drop l.one-index l.all) ≡ map spelled_name l.all
