use Rattle.std.proofs.Common.{◌≡◌, length, arith}
use Rattle.jn_reach.proofs.Spreading.{Searching-begun, Searching-more, Searching-done, waits_in}
use Rattle.jn_reach.proofs.search.spread.Goals as goal

pub loop-node-init : goal.loop-node-init
loop-node-init c =
    Searching-begun _ _ _ _ _ _ c.new-waiting.ensures.items c.requires.closed c.in_ok-visit_node.ensures.visited

pub visit_from-requires-clause-node : goal.visit_from-requires-clause-node
visit_from-requires-clause-node c =
    let long : length c.args.origins.now.items ≡ length c.args.edges.now = omega (arith, c.requires.len, c.args.origins.now.ok.0) in
    waits_in _ _ _ _ _ _ _ c.in-Some.ensures.items long c.loop-node.invariant

pub loop-node-preserved : goal.loop-node-preserved
loop-node-preserved c =
    let v = c.in_ok-visit_from.ensures.visited in
    Searching-more _ _ _ _ _ _ _ _ _ _ c.in-Some.ensures.items v.at c.loop-node.invariant v.visited

pub returns : goal.returns
returns c = record {
  spread = Searching-done _ _ _ _ _ (omega (arith, c.in_default.ensures.cases, c.loop-node.waiting.ok.0)) c.loop-node.invariant;
}
