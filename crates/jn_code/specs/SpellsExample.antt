-- The file of the image that prints 7, for worked rows.
use Rattle.std.specs.Prelude.{ℕ, List, [], ◌∷◌, slice_set}

abbrev pub seven_file : List ℕ
seven_file =
    0x4a ∷ 0x4e ∷ 0x44 ∷ 0x31 ∷ 0 ∷ 0 ∷ 0 ∷ 0 ∷ 0 ∷ 0 ∷ 0 ∷ 0 ∷ 0 ∷ 0 ∷ 0 ∷ 0 ∷ 0 ∷ 0 ∷ 0 ∷ 0
    ∷ 1 ∷ 0 ∷ 0 ∷ 0
    ∷ 0 ∷ 0 ∷ 0 ∷ 1 ∷ 0 ∷ 3 ∷ 0 ∷ 0 ∷ 0
    ∷ 0x01 ∷ 7 ∷ 0 ∷ 0 ∷ 0 ∷ 0 ∷ 0 ∷ 0 ∷ 0 ∷ 0x24 ∷ 0x27
    ∷ 0 ∷ 0 ∷ 0 ∷ 0 ∷ []

-- with that byte at that place
abbrev pub altered : ℕ → ℕ → List ℕ
altered at byte = slice_set seven_file at byte
