use Rattle.std.proofs.Common.{take, []}
use Rattle.std.specs.List.{Any}
use Rattle.jn_table.specs.Gather.{Gains}
use Rattle.jn_table.specs.Own.{HasAt}
use Rattle.jn_table.proofs.own.gathered.Given as goal

abbrev pub invariant-loop-number : goal.invariant-loop-number
invariant-loop-number l = Gains (λ D. Any (HasAt l.rows D) (take l.number-index l.numbers)) [] l.all.items
