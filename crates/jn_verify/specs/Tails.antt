-- Lists of kinds that share their tails, each with a number.
use Rattle.std.specs.Prelude.{◌≡◌, ℕ, ◌<◌, ◌≤◌, List, [], ◌∷◌, ◌++◌, length, drop, map, get_or, true, false, Option, Some, None}
use Rattle.std.specs.Option.{option_map}
use Rattle.jn_code.specs.declared.kind.OperandKind.{OperandKind}
use Rattle.jn_code.specs.Valid.{Notes, all_suit}

-- the list with a number
abbrev pub list_at : List (List OperandKind) → ℕ → List OperandKind
list_at ls n = get_or ls n []

-- The latest kind of list n, and the number of those before it, where it has any.
abbrev pub IsLatest : List (List OperandKind) → ℕ → Option (OperandKind × ℕ) → Type 0
IsLatest ls n None = list_at ls n ≡ []
IsLatest ls n (Some x) = (list_at ls n ≡ x.0 ∷ list_at ls x.1) × (x.1 < n)

-- Of list n these wants are taken: the rest is list m, or they do not suit.
abbrev pub IsTaken : List (List OperandKind) → List (Option OperandKind) → ℕ → Option ℕ → Type 0
IsTaken ls ws n None = all_suit ws (list_at ls n) ≡ false
IsTaken ls ws n (Some m) = (all_suit ws (list_at ls n) ≡ true) × (m < length ls) × (list_at ls m ≡ drop (length ws) (list_at ls n))

-- a list with that number is there
abbrev pub IsThere : List (List OperandKind) → Option ℕ → Type 0
IsThere ls None = Unit {0}
IsThere ls (Some m) = m < length ls

-- what is known, where lists are told by their numbers
abbrev pub seen : List (List OperandKind) → List (Option ℕ) → Notes
seen ls notes = map (option_map (list_at ls)) notes

-- at most one list has come behind the others
pub record IsGrown (ls ms : List (List OperandKind)) : Type 0 where
  pub more : List (List OperandKind)
  pub is : ms ≡ ls ++ more
  pub few : length more ≤ 1
