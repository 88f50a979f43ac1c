-- How instructions that are placed one behind another are put together.
use Rattle.std.specs.Prelude.{◌≡◌, ℕ, List, [], ◌∷◌, ◌++◌, length, slice_set}
use Rattle.jn_code.specs.declared.instr.Instr.{Instr}
use Rattle.jn_code.specs.declared.instr.Instr.TheVariants as ins
use Rattle.jn_code.specs.declared.image.Code.{Code}
use Rattle.jn_lower.specs.Placed.{Placed, Nothing, Are, Behind, Branches, Turns}

-- What is added at the end stands there.
abbrev pub AddedStand : Type 0
AddedStand = (xs old new : List Instr) → new ≡ old ++ xs → Placed (Are xs) old new

abbrev pub NothingStands : Type 0
NothingStands = (old : List Instr) → Placed Nothing old old

-- What is placed behind another form stands behind it.
abbrev pub OneBehindAnother : Type 1
OneBehindAnother =
    (A B : Code → ℕ → ℕ → Type 0) (old mid new : List Instr) → Placed A old mid → Placed B mid new
    → Placed (Behind A B) old new

-- what stands as one form stands as each form that it is
abbrev pub Means : Type 1
Means =
    (A B : Code → ℕ → ℕ → Type 0) (old new : List Instr) → ((c : Code) (s t : ℕ) → A c s t → B c s t)
    → Placed A old new → Placed B old new

-- Two jumps, patched once what they pass is placed: x and y are what stood in their places.
abbrev pub BranchesStand : Type 1
BranchesStand =
    (jump : ℕ → Instr) (One Other : Code → ℕ → ℕ → Type 0) (x y : Instr) (c0 c1 c2 c3 c4 c5 new : List Instr)
    → c1 ≡ c0 ++ x ∷ [] → Placed One c1 c2 → c3 ≡ c2 ++ y ∷ [] → Placed Other c3 c4
    → c5 ≡ slice_set c4 (length c0) (jump (length c3)) → new ≡ slice_set c5 (length c2) (ins.Jump (length c4))
    → Placed (Branches jump One Other) c0 new

-- A jump that ends the turns, patched, and one back.
abbrev pub TurnsStand : Type 1
TurnsStand =
    (Asks Body : Code → ℕ → ℕ → Type 0) (x : Instr) (c0 c1 c2 c3 c4 new : List Instr)
    → Placed Asks c0 c1 → c2 ≡ c1 ++ x ∷ [] → Placed Body c2 c3 → c4 ≡ c3 ++ ins.Jump (length c0) ∷ []
    → new ≡ slice_set c4 (length c1) (ins.Jfalse (length c4)) → Placed (Turns Asks Body) c0 new
