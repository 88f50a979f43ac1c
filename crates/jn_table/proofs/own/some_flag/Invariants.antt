use Rattle.jn_reach.proofs.Searches.{NoneBefore}
use Rattle.jn_table.specs.Own.{IsFlagAt}
use Rattle.jn_table.proofs.own.some_flag.Given as goal

abbrev pub invariant-loop-number : goal.invariant-loop-number
invariant-loop-number l = NoneBefore (IsFlagAt l.flags) l.numbers l.number-index
