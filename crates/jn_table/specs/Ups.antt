-- A path without its last name.
use Rattle.std.specs.Prelude.{◌≡◌, [], ◌∷◌}
use Rattle.jn_base.specs.declared.tree.Name.{Name}
use Rattle.jn_base.specs.Paths.{Path}

-- U is R without its last name
abbrev pub IsUnder : Path → Path → Type 0
IsUnder R U = (C : Name) × (R ≡ C ∷ U)

-- R without its last name; the program itself stays as it is
abbrev pub up_path : Path → Path
up_path [] = []
up_path (C ∷ U) = U
