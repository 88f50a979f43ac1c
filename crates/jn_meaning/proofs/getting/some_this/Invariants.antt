use Rattle.jn_reach.proofs.Searches.{NoneBefore}
use Rattle.jn_share.specs.Parts.{OfThis}
use Rattle.jn_meaning.proofs.getting.some_this.Given as goal

abbrev pub invariant-loop-x : goal.invariant-loop-x
invariant-loop-x l = NoneBefore OfThis l.xs l.x-index
