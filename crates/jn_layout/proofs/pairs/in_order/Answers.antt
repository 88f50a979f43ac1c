use Rattle.jn_layout.proofs.Ordered.{deduped_same, deduped_sorted}
use Rattle.jn_layout.proofs.pairs.in_order.Goals as goal

pub returns-clause-same : goal.returns-clause-same
returns-clause-same c = deduped_same c.args.pairs.items _ c.dedup.new.self.items c.in_ok-sort.ensures.permutation c.dedup.ensures.filtered

pub returns-clause-ordered : goal.returns-clause-ordered
returns-clause-ordered c = deduped_sorted _ c.dedup.new.self.items c.in_ok-sort.ensures.sorted c.dedup.ensures.filtered
