use Rattle.std.proofs.Common.{take, []}
use Rattle.std.specs.List.{Any}
use Rattle.jn_table.specs.Gather.{Gains, PartIn}
use Rattle.jn_table.proofs.gather.parts.Given as goal

abbrev pub invariant-loop-at : goal.invariant-loop-at
invariant-loop-at l =
    Gains (λ D. Any (PartIn l.entries l.name l.part l.inside D) (take l.at-index l.numbers)) [] l.all.items
