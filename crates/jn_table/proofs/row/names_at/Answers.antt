use Rattle.jn_table.proofs.RowSteps.{ordered_answer}
use Rattle.jn_table.proofs.row.names_at.Goals as goal

pub returns : goal.returns
returns c = ordered_answer _ _ c.in_ok-names.names.items _ c.in_ok-names.ensures
    (rw c.deref.ensures.value at c.in_byte_order.ensures)
