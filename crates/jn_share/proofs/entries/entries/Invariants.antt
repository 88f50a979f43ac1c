use Rattle.jn_share.specs.Counting.{Counts, IsEntryTo, SaysCount}
use Rattle.jn_share.proofs.entries.entries.Given as goal

abbrev pub invariant-loop-k : goal.invariant-loop-k
invariant-loop-k l = SaysCount l.t l.g (λ p. Counts (IsEntryTo p l.t.known.items l.k) l.count)
