use Rattle.std.proofs.Common.{◌∙◌, ◌<◌, length, arith}
use Rattle.jn_output.proofs.Writing.{cut_at, more_written, on_err}
use Rattle.jn_output.proofs.output.Output.put_all.Goals as goal

pub returns-in_err-put_byte-clause-cut : goal.returns-in_err-put_byte-clause-cut
returns-in_err-put_byte-clause-cut g c =
    let h : c.loop-b.b-index < length c.args.bytes.now = omega arith in
    on_err _ _ (cut_at _ _ _ _ _ c.args.bytes.now c.loop-b.b-index h c.loop-b.invariant.wrote c.in_err-put_byte.ensures.cut)

pub loop-b-preserved : goal.loop-b-preserved
loop-b-preserved g c =
    let h : c.loop-b.b-index < length c.args.bytes.now = omega arith in
    record {
      wrote = more_written _ _ _ _ _ _ c.args.bytes.now c.loop-b.b-index h c.loop-b.invariant.wrote c.in_ok-put_byte.ensures.wrote;
      faults = c.in_ok-put_byte.ensures.cause.kept ∙ c.loop-b.invariant.faults;
    }
