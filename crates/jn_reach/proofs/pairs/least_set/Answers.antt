use Rattle.std.proofs.Common.{sym}
use Rattle.jn_reach.proofs.Listing.{Lists-same}
use Rattle.jn_reach.proofs.Pairings.{Reached-Derived, Derived-Reached}
use Rattle.jn_reach.proofs.pairs.least_set.Goals as goal

pub returns : goal.returns
returns c = record {
  within = rw (sym (c.in_ok-edges.ensures.exact).long, ← c.deref.ensures.value) c.in_ok-nodes.ensures.within;
  exact = Lists-same _ _ _
      (Reached-Derived _ _ _ _ c.in_ok-edges.ensures.exact)
      (Derived-Reached _ _ _ _ c.in_ok-edges.ensures.exact)
      (rw c.deref.ensures.value at c.in_ok-nodes.ensures.exact);
}
