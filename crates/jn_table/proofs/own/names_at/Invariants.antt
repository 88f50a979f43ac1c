use Rattle.std.proofs.Common.{take, []}
use Rattle.std.specs.List.{Any}
use Rattle.jn_table.specs.Gather.{Gains, HasNameAt}
use Rattle.jn_table.proofs.own.names_at.Given as goal

abbrev pub invariant-loop-number : goal.invariant-loop-number
invariant-loop-number l =
    Gains (λ D. Any (HasNameAt l.entries l.part D) (take l.number-index l.row)) [] l.all.items
