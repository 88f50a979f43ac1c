-- Masks by their names.
use Rattle.std.specs.Prelude.{◌≡◌, List, map, reverse, Contains}
use Rattle.jn_base.specs.declared.tree.Name.{Name}
use Rattle.jn_base.specs.declared.tree.Named.{Named}

abbrev pub name_of : Named → Name
name_of n = n.name

-- the names of masks, the last one first
abbrev pub seen_of : List Named → List Name
seen_of ms = reverse (map name_of ms)

-- one of the masks has the name
abbrev pub IsMaskNamed : List Named → Name → Type 0
IsMaskNamed ms n = (m : Named) × Contains ms m × (m.name ≡ n)
