use Rattle.jn_table.proofs.Grouped.{places_listed}
use Rattle.jn_table.proofs.groups.places_of.Goals as goal

pub returns : goal.returns
returns c =
    places_listed c.args.groups.now c.args.key.now c.place_of.result c.row_at.result.now
    (rw c.deref-2.ensures.value at c.place_of.ensures.some)
    (rw c.deref-2.ensures.value at c.place_of.ensures.none)
    (rw c.deref.ensures.value at c.row_at.ensures)
