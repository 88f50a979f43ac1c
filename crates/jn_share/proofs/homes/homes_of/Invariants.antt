use Rattle.std.proofs.Common.{◌≡◌, length}
use Rattle.jn_share.specs.Homes.{HomesTo}
use Rattle.jn_share.proofs.homes.homes_of.Given as goal

abbrev pub invariant-loop-k : goal.invariant-loop-k
invariant-loop-k l = record {
  long : length l.homes.items ≡ l.k;
  homes : HomesTo l.p l.t.known.items l.k l.homes.items;
}
