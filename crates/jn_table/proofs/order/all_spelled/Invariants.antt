use Rattle.std.proofs.Common.{take}
use Rattle.jn_reach.specs.Each.{Each}
use Rattle.jn_table.specs.Order.{SpelledOf}
use Rattle.jn_table.proofs.order.all_spelled.Given as goal

abbrev pub invariant-loop-name : goal.invariant-loop-name
invariant-loop-name l = Each (λ name s. SpelledOf l.texts name s) (take l.name-index l.names) l.all.items
