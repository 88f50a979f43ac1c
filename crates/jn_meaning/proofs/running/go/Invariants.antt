use Rattle.std.proofs.Common.{◌≡◌}
use Rattle.jn_meaning.proofs.Underway.{Underway}
use Rattle.jn_meaning.proofs.running.go.Given as goal

abbrev pub invariant-loop-turn : goal.invariant-loop-turn
invariant-loop-turn g l = record {
  way : Underway l.w.program.now l.arena l.depth l.fn.t.known.items l.budget l.turn l.run.now l.run.waiting.items l.run.heap (g.O.Sink.taken l.fn.out) (g.O.Sink.taken l.out) l.output;
  table : l.t ≡ l.fn.t;
  faults : g.O.Sink.faults l.out ≡ g.O.Sink.faults l.fn.out;
}
