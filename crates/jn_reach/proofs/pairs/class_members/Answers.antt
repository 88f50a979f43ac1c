use Rattle.std.proofs.Common.{arith}
use Rattle.jn_reach.proofs.Members.{Members-none, Members-more, Members-done}
use Rattle.jn_reach.proofs.pairs.class_members.Goals as goal

pub loop-node-init : goal.loop-node-init
loop-node-init c = Members-none _ _ c.in_ok-rows.ensures.exact

pub loop-node-preserved : goal.loop-node-preserved
loop-node-preserved c = Members-more _ _ _ _ _ c.loop-node-test.true c.loop-node.invariant c.in_ok-add_edge.ensures.added

pub returns : goal.returns
returns c = record { exact = Members-done _ _ _ (omega (arith, c.loop-node-test.false, c.loop-node.auto.node-end)) c.loop-node.invariant }
