use Rattle.std.proofs.Common.{◌≡◌, ◌<◌, ◌^◌}
use Rattle.jn_code.specs.Machine.{ups_of}
use Rattle.jn_machine.proofs.entries.ups_of.Given as goal

abbrev pub invariant-loop-left : goal.invariant-loop-left
invariant-loop-left l = record {
  same : ups_of l.image l.left l.class ≡ ups_of l.image l.n l.k;
  small : l.class < 2 ^ 63;
}

abbrev pub decreases-loop-left : goal.decreases-loop-left
decreases-loop-left l = l.left
