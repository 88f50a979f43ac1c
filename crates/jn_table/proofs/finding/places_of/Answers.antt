use Rattle.jn_table.proofs.Located.{are_places}
use Rattle.jn_table.proofs.finding.places_of.Goals as goal

pub returns : goal.returns
returns c =
    are_places _ c.in_ok-places.places.items _ c.in_ok-places.ensures c.in_ok-sort.ensures.permutation
    c.in_ok-sort.ensures.sorted
