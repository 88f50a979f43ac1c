use Rattle.jn_share.specs.Keys.{NoneOverTo}
use Rattle.jn_share.proofs.keys.first_over.Given as goal

abbrev pub invariant-loop-k : goal.invariant-loop-k
invariant-loop-k l = NoneOverTo l.t l.keys l.lists.starts.items l.k
