use Rattle.jn_views.specs.Held.{sides}
use Rattle.jn_views.proofs.Holding.{GrantedTo}
use Rattle.jn_views.proofs.held.holds.Given as goal

abbrev pub invariant-loop-k : goal.invariant-loop-k
invariant-loop-k l = GrantedTo l.t l.g l.s (sides l.from l.to l.m l.names) l.k
