use Rattle.std.proofs.Common.{◌≡◌, length, drop}
use Rattle.jn_closure.proofs.Marking.{MarkedIn}
use Rattle.jn_closure.proofs.marks.clear.Given as goal

abbrev pub invariant-loop-node : goal.invariant-loop-node
invariant-loop-node l = record {
  long : length l.marks.items ≡ length l.initial.marks.items;
  left : MarkedIn l.marks.items (drop l.node-index l.nodes);
}
