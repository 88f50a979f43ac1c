use Rattle.std.proofs.Common.{◌≡◌}
use Rattle.jn_machine.specs.Sizes.{Sized}
use Rattle.jn_machine.specs.Calls.{Roomy, SameSizes}
use Rattle.jn_machine.proofs.Runs.{Underway}
use Rattle.jn_machine.proofs.run.go.Given as goal

abbrev pub decreases-loop-left : goal.decreases-loop-left
decreases-loop-left g l = l.left

abbrev pub invariant-loop-left : goal.invariant-loop-left
invariant-loop-left g l = record {
  way : Underway l.image l.fn.heap.limit l.fn.frames.limit l.steps l.left l.now l.frames l.heap.words (g.O.Sink.taken l.fn.out) (g.O.Sink.taken l.out) l.output;
  same : SameSizes l.frames l.fn.frames;
  arena : l.heap.limit ≡ l.fn.heap.limit;
  roomy : Roomy l.image l.frames;
  sized : Sized l.frames.wide l.frames.high l.now;
  faults : g.O.Sink.faults l.out ≡ g.O.Sink.faults l.fn.out;
}
