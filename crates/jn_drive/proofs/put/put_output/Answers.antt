use Rattle.std.proofs.Common.{arith, ◌∙◌}
use Rattle.jn_drive.proofs.Pieces.{piece_put, part_put, failed_takes}
use Rattle.jn_drive.proofs.put.put_output.Goals as goal

pub returns-in_err-put-clause-taken : goal.returns-in_err-put-clause-taken
returns-in_err-put-clause-taken g c =
    let part = c.in_err-put.ensures.taken in
    failed_takes _ _ _ _ c.from_residual.ensures.0 (part_put _ _ _ c.args.output.now c.loop-from.from c.min-piece.result part.0 c.loop-from.invariant.1 part.1)

pub loop-from-preserved : goal.loop-from-preserved
loop-from-preserved g c =
    (let i = c.loop-from.invariant.0 in let m = c.min-piece.ensures in omega arith, piece_put _ _ _ c.args.output.now c.loop-from.from c.min-piece.result c.loop-from.invariant.1 c.in_ok-put.ensures.taken, c.in_ok-put.ensures.cause.kept ∙ c.loop-from.invariant.2)
