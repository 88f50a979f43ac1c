use Rattle.jn_reach.proofs.Members.{Members}
use Rattle.jn_reach.proofs.pairs.class_members.Given as goal

abbrev pub invariant-loop-node : goal.invariant-loop-node
invariant-loop-node l = Members l.firsts l.node l.rows.items
