use Rattle.std.proofs.Common.{refl}
use Rattle.std.proofs.lemmas.Option.{slice_get_read}
use Rattle.jn_reach.proofs.Cycles.{edge_by_row}
use Rattle.jn_reach.proofs.cycle.has_edge.Goals as goal

pub returns : goal.returns
returns c =
    edge_by_row _ _ _ c.index-edges-from.result _ (slice_get_read _ _ _ _ refl c.requires c.index-edges-from.is)
    (rw c.deref.ensures.value at c.has_number.ensures)
