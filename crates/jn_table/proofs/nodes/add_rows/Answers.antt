use Rattle.jn_table.proofs.Shifts.{shifted_none, shifted_more, shifted_all}
use Rattle.jn_table.proofs.nodes.add_rows.Goals as goal

pub loop-row-init : goal.loop-row-init
loop-row-init c = shifted_none _ _

pub loop-row-preserved : goal.loop-row-preserved
loop-row-preserved c =
    rw c.in_ok-push.ensures.items
    (shifted_more _ _ _ _ _ _ _ c.loop-row-test.true c.row-item.is c.loop-row.invariant
    (rw c.deref.ensures.value at c.in_ok-moved.ensures))

pub returns : goal.returns
returns c = shifted_all _ _ _ _ _ c.loop-row-test.false c.loop-row.invariant
