use Rattle.std.proofs.Common.{ℕ}
use Rattle.jn_reach.specs.Graph.{HasEdge}
use Rattle.jn_reach.proofs.Searches.{none_all, iff_false}
use Rattle.jn_reach.proofs.cycle.leads_to.Goals as goal

pub returns : goal.returns
returns c = iff_false (none_all (λ (q : ℕ). HasEdge c.args.edges.now q c.args.to) _ _ c.loop-node-test.false c.loop-node.invariant)
