use Rattle.jn_reach.proofs.Listing.{Listing}
use Rattle.jn_layout.specs.Kin.{OfGroups, FirstAt}
use Rattle.jn_layout.proofs.kin.firsts_of.Given as goal

abbrev pub invariant-loop-k : goal.invariant-loop-k
invariant-loop-k l = OfGroups l.t l.kin (λ p. Listing (FirstAt p l.t.known.items) l.k l.all.items)
