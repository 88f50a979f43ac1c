use Rattle.std.proofs.Common.{◌≡◌, ◌≤◌, ◌-◌, length, take}
use Rattle.std.specs.Io.KnownBytes.{append_known}
use Rattle.jn_drive.proofs.put.put_output.Given as goal

abbrev pub invariant-loop-from : goal.invariant-loop-from
invariant-loop-from g l =
    (l.from ≤ length l.output) × (g.O.Sink.taken l.out ≡ append_known (g.O.Sink.taken l.fn.out) (take l.from l.output)) × (g.O.Sink.faults l.out ≡ g.O.Sink.faults l.fn.out)

abbrev pub decreases-loop-from : goal.decreases-loop-from
decreases-loop-from g l = length l.output - l.from
