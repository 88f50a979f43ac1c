-- The homes of all numbers.
use Rattle.std.specs.Prelude.{◌≡◌, ◌<◌, ℕ, List, [], Option, Some, slice_get}
use Rattle.jn_base.specs.declared.tree.Place.{Place}
use Rattle.jn_base.specs.declared.tree.Program.{Program}
use Rattle.jn_base.specs.declared.path.Path.{Path as ShownPath}
use Rattle.jn_base.specs.Paths.{Path}
use Rattle.jn_base.specs.Duplicates.{duplicates}
use Rattle.jn_homes.specs.Homes.{HomeIs}
use Rattle.jn_share.specs.Pairing.{IsAt}

-- where no name stands twice, the homes of the paths of the first n numbers
abbrev pub HomesTo : Program → List ShownPath → ℕ → List (Option Place) → Type 0
HomesTo p known n homes = duplicates p ≡ [] → (k : ℕ) (R : Path) → k < n → IsAt known k R → (home : Option Place) × (slice_get homes k ≡ Some home) × HomeIs p R home
