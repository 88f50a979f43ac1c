use Rattle.std.proofs.Common.{take}
use Rattle.jn_table.specs.NamePlaces.{AreNamePlaces}
use Rattle.jn_table.proofs.named.name_places.Given as goal

abbrev pub invariant-loop-entry : goal.invariant-loop-entry
invariant-loop-entry l = AreNamePlaces (take l.entry-index l.entries) l.order l.places.items
