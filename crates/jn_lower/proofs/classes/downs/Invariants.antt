use Rattle.std.proofs.Common.{◌≡◌, ◌++◌, drop}
use Rattle.jn_lower.specs.Classes.{down_each}
use Rattle.jn_lower.proofs.classes.downs.Given as goal

abbrev pub invariant-loop-name : goal.invariant-loop-name
invariant-loop-name l =
    (l.out.instrs ++ down_each (drop l.name-index l.names) ≡ l.fn.out.instrs ++ down_each l.names)
    × (l.out.locals ≡ l.fn.out.locals)
