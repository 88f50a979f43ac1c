use Rattle.jn_table.proofs.Orders.{order_is}
use Rattle.jn_table.proofs.order.in_byte_order.Goals as goal

pub returns : goal.returns
returns c =
    order_is c.args.texts.now c.args.names.now c.in_ok-all.all.items _ _ c.in_ok-order.order.items c.in_ok-all.ensures
    c.in_ok-sort.ensures.permutation c.in_ok-sort.ensures.sorted c.dedup.ensures.filtered
    (rw c.deref.ensures.value at c.in_ok-order.ensures)
