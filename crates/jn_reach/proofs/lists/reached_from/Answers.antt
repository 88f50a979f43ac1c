use Rattle.jn_reach.proofs.Listing.{Lists-from}
use Rattle.jn_reach.proofs.lists.reached_from.Goals as goal

pub returns-clause-exact : goal.returns-clause-exact
returns-clause-exact c = Lists-from _ _ _ c.in_ok-nodes.ensures.exact
