use Rattle.jn_reach.proofs.Listing.{Lists-reached, reached_within}
use Rattle.jn_reach.proofs.lists.reached.Goals as goal

pub returns : goal.returns
returns c =
    let exact = Lists-reached _ _ _ _ c.in_ok-origins.ensures.exact (rw c.deref.ensures.value at c.in_ok-nodes.ensures.exact) in
    record { exact = exact; within = reached_within _ _ _ c.requires.edges c.requires.starts exact }
