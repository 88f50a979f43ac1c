use Rattle.std.proofs.Common.{arith}
use Rattle.jn_table.proofs.RowSteps.{rows_none, rows_more, rows_all}
use Rattle.jn_table.proofs.row.rows_of.Goals as goal

pub loop-number-init : goal.loop-number-init
loop-number-init c = rows_none _ _ _ c.new-rows.ensures.items

pub loop-number-preserved : goal.loop-number-preserved
loop-number-preserved c =
    rw c.in_ok-push.ensures.items (rows_more _ _ _ _ _ c.loop-number.invariant c.in_ok-row.ensures)

pub returns : goal.returns
returns c =
    rows_all _ _ _ _ _
    (omega (arith, c.loop-number-test.false, c.loop-number.auto.number-end, c.len-number-end.ensures, c.args.universe.now.nodes.paths.ok.0)) c.loop-number.invariant
