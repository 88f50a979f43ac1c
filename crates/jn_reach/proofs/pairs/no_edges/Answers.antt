use Rattle.jn_reach.proofs.Edges.{no_edges_none, no_edges_more}
use Rattle.jn_reach.proofs.pairs.no_edges.Goals as goal

pub loop-init : goal.loop-init
loop-init c = no_edges_none _ c.new-rows.ensures.items

pub loop-preserved : goal.loop-preserved
loop-preserved c = rw c.in_ok-push.ensures.items (no_edges_more _ _ _ c.new.ensures.items c.loop.invariant)
