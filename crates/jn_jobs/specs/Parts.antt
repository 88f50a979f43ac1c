-- What the words behind the program's name say: positional words, and values of options. A word is its bytes.
use Rattle.std.specs.Prelude.{ℕ, Bool, false, not, ◌||◌, ◌==◌, List, [], ◌∷◌, Option, Some, None, option_map, drop, codes, bytes_eq, if◌then◌else◌}
use Rattle.std.specs.List.{list_any, before_first, after_first}

abbrev pub Text : Type 0
Text = List ℕ

-- The three options are the bounds of a run.
pub data Bound : Type 0 where
  Arena : Bound
  Depth : Bound
  Steps : Bound

abbrev pub name_of : Bound → Text
name_of Arena = codes "arena"
name_of Depth = codes "depth"
name_of Steps = codes "steps"

-- The bound of a name: Depth of `depth`, none of `dep`.
abbrev pub bound_named : Text → Option Bound
bound_named name = if bytes_eq (name_of Arena) name then Some Arena
    else (if bytes_eq (name_of Depth) name then Some Depth
    else (if bytes_eq (name_of Steps) name then Some Steps else None))

abbrev pub begins_with_dash : Text → Bool
begins_with_dash [] = false
begins_with_dash (b ∷ bs) = b == 45

-- A word is plain where it doesn't begin with `-`, or is `-` alone: `a.j`, `-`, the empty word.
abbrev pub is_plain : Text → Bool
is_plain word = not (begins_with_dash word) || bytes_eq word (codes "-")

-- What a word that isn't plain says.
pub data Dashed : Type 0 where
  -- `--`: the words behind it are positional
  Ends : Dashed
  -- `--arena`: the next word is its value
  Names : Bound → Dashed
  -- `--arena=7`
  Gives : Bound → Text → Dashed
  -- any other, which is refused: `-x`, `--help`, `--=7`
  Wrong : Dashed

abbrev pub is_equals : ℕ → Bool
is_equals b = b == 61

-- What stands behind the first `=`, where there is one: `7` of `arena=7`.
abbrev pub value_in : Text → Option Text
value_in text = if list_any is_equals text then Some (after_first is_equals text) else None

abbrev pub option_by : Option Bound → Option Text → Dashed
option_by None value = Wrong
option_by (Some x) None = Names x
option_by (Some x) (Some value) = Gives x value

-- An option behind its two dashes: its name up to the first `=`, and its value.
abbrev pub option_in : Text → Dashed
option_in text = option_by (bound_named (before_first is_equals text)) (value_in text)

abbrev pub dashed : Text → Dashed
dashed word = if bytes_eq word (codes "--") then Ends
    else (if begins_with_dash (drop 1 word) then option_in (drop 2 word) else Wrong)

-- The positional words, and the values that each option was given, in their order.
pub record Parts : Type 0 where
  pub positional : List Text
  pub arena : List Text
  pub depth : List Text
  pub steps : List Text

-- Only these positional words.
abbrev pub only : List Text → Parts
only words = record { positional = words; arena = []; depth = []; steps = [] }

abbrev pub with_word : Text → Parts → Parts
with_word word p = record p { positional = word ∷ p.positional }

abbrev pub with_value : Bound → Text → Parts → Parts
with_value Arena value p = record p { arena = value ∷ p.arena }
with_value Depth value p = record p { depth = value ∷ p.depth }
with_value Steps value p = record p { steps = value ∷ p.steps }

-- A word that isn't plain, before the words `rest`. `more` says what these are, while an option or none waits for its
-- value.
abbrev pub by_dashed : Dashed → List Text → (Option Bound → Option Parts) → Option Parts
by_dashed Ends rest more = Some (only rest)
by_dashed (Names x) rest more = more (Some x)
by_dashed (Gives x value) rest more = option_map (with_value x value) (more None)
by_dashed Wrong rest more = None

-- The words, while an option waits for its value or none does. An option may stand anywhere before `--`, as `--x N` or
-- `--x=N`; words behind `--` are positional; any other word that begins with `-` and isn't `-` alone is refused, also
-- where a value should stand. `run --depth 9 a.j -- -b` has the positional words `run`, `a.j`, `-b` and the value `9` of
-- `depth`; `run a.j --depth` and `run a.j --depth -9` say nothing.
abbrev pub parts : List Text → Option Bound → Option Parts
parts [] None = Some (only [])
parts [] (Some x) = None
parts (word ∷ rest) (Some x) =
    if is_plain word then option_map (with_value x word) (parts rest None) else None
parts (word ∷ rest) None =
    if is_plain word then option_map (with_word word) (parts rest None)
    else by_dashed (dashed word) rest (parts rest)
