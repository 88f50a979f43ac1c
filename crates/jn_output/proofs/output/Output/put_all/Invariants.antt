use Rattle.std.proofs.Common.{◌≡◌, take}
use Rattle.jn_output.specs.Writes.{Wrote}
use Rattle.jn_output.proofs.output.Output.put_all.Given as goal

abbrev pub invariant-loop-b : goal.invariant-loop-b
invariant-loop-b g l = record {
  wrote : Wrote (g.K.Sink.taken l.fn.sink) (g.K.Sink.taken l.sink) l.fn.self l.self (take l.b-index l.bytes);
  faults : g.K.Sink.faults l.sink ≡ g.K.Sink.faults l.fn.sink;
}
