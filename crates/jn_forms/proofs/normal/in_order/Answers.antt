use Rattle.jn_normal.proofs.Ordered.{order_is}
use Rattle.jn_forms.proofs.normal.in_order.Goals as goal

pub returns : goal.returns
returns c = order_is c.args.xs.items _ _ c.in_ok-sort.ensures.permutation c.in_ok-sort.ensures.sorted c.dedup.ensures.filtered
