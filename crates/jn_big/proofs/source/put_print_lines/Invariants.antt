use Rattle.std.proofs.Common.{◌≡◌, ◌++◌}
use Rattle.jn_big.specs.Source.{print_lines}
use Rattle.jn_big.proofs.source.put_print_lines.Given as goal

abbrev pub invariant-loop-j : goal.invariant-loop-j
invariant-loop-j l = l.out.items ≡ l.fn.out.items ++ print_lines l.j
