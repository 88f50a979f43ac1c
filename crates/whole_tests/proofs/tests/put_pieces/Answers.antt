use Rattle.std.proofs.Common.{◌≡◌, ◌+◌, ◌-◌, take, drop, arith, ap, ◌∙◌}
use Rattle.std.specs.Io.KnownBytes.{append_known}
use Rattle.whole_tests.proofs.Pieces.{taken_further, taken_part}
use Rattle.whole_tests.proofs.tests.put_pieces.Goals as goal

pub returns-in-Err-clause-taken : goal.returns-in-Err-clause-taken
returns-in-Err-clause-taken g c =
    taken_part (g.O.Sink.taken c.args.out.now) (g.O.Sink.taken c.loop-at.out) (g.O.Sink.taken c.put.new.self) c.args.bytes.now c.loop-at.at (c.loop-at.at + c.min.result - c.loop-at.at)
    c.loop-at.invariant.taken c.in-Err.ensures.taken

pub loop-at-preserved : goal.loop-at-preserved
loop-at-preserved g c =
    let size : c.loop-at.at + c.min.result - c.loop-at.at ≡ c.min.result = omega arith in
    record {
      within = omega (arith, c.min.ensures);
      taken = taken_further (g.O.Sink.taken c.args.out.now) (g.O.Sink.taken c.loop-at.out) (g.O.Sink.taken c.put.new.self) c.args.bytes.now c.loop-at.at c.min.result
          c.loop-at.invariant.taken (c.in-Ok.ensures.taken ∙ ap (λ n. append_known (g.O.Sink.taken c.loop-at.out) (take n (drop c.loop-at.at c.args.bytes.now))) size);
      count = c.in-Ok.ensures.cause.kept ∙ c.loop-at.invariant.count;
    }
