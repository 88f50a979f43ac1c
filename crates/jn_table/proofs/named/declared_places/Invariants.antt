use Rattle.std.proofs.Common.{ℕ, [], take}
use Rattle.std.specs.List.{Any}
use Rattle.jn_table.specs.Gather.{Gains}
use Rattle.jn_table.specs.NamePlaces.{PlacedIn}
use Rattle.jn_table.proofs.named.declared_places.Given as goal

abbrev pub invariant-loop-at : goal.invariant-loop-at
invariant-loop-at l =
    Gains (λ (k : ℕ). Any (PlacedIn l.places l.inside k) (take l.at-index l.numbers)) [] l.all.items
