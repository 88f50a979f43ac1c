use Rattle.std.proofs.Common.{◌≡◌, ◌++◌}
use Rattle.jn_big.specs.Source.{families}
use Rattle.jn_big.proofs.source.put_families.Given as goal

abbrev pub invariant-loop-j : goal.invariant-loop-j
invariant-loop-j l = l.out.items ≡ l.fn.out.items ++ families l.j
