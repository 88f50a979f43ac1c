use Rattle.std.proofs.Common.{◌≡◌, ◌++◌, ◌+◌, drop, map}
use Rattle.jn_table.proofs.nodes.shifted.Given as goal

abbrev pub invariant-loop-number : goal.invariant-loop-number
invariant-loop-number l =
    l.moved.items ++ map (λ j. j + l.off) (drop l.number-index l.row) ≡ map (λ j. j + l.off) l.row
