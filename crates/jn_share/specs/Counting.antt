-- The entries of a program, counted.
use Rattle.std.specs.Prelude.{◌≡◌, ◌<◌, ◌↔◌, ◌⊎◌, ℕ, List, Contains, length, Bool, IsTrue}
use Rattle.jn_base.specs.declared.tree.Program.{Program}
use Rattle.jn_base.specs.declared.path.Path.{Path as ShownPath}
use Rattle.jn_base.specs.Paths.{Path}
use Rattle.jn_table.specs.declared.table.Table.{Table}
use Rattle.jn_table.specs.Tables.{IsFilled}
use Rattle.jn_sem.specs.Sharing.{IsClass, Related}
use Rattle.jn_share.specs.declared.groups.Groups.{Groups}
use Rattle.jn_share.specs.Groups.{AreGroups}
use Rattle.jn_share.specs.Keys.{IsOnce}
use Rattle.jn_share.specs.Limits.{Entry, IsEntry, path_of}
use Rattle.jn_share.specs.Pairing.{IsAt}

-- the count is n, or both are past the limit
abbrev pub CountIs : ℕ → ℕ → Type 0
CountIs n told = (told ≡ n) ⊎ ((1_048_576 < told) × (1_048_576 < n))

-- the count is that of different things of which T holds, all of them
pub record Counts {A : Type 0} (T : A → Type 0) (told : ℕ) : Type 0 where
  pub list : List A
  pub exact : (x : A) → Contains list x ↔ T x
  pub once : IsOnce list
  pub count : CountIs (length list) told

-- the other classes of the group of R
abbrev pub IsOther : Program → Path → Path → Type 0
IsOther p R S = Related p R S × (R ≡ S → ⊥)

-- the entries of the path R
abbrev pub IsEntryOf : Program → Path → Entry → Type 0
IsEntryOf p R e = IsEntry p e × (path_of e ≡ R)

-- the entries of the paths of the first n numbers
abbrev pub IsEntryTo : Program → List ShownPath → ℕ → Entry → Type 0
IsEntryTo p known n e = IsEntry p e × ((k : ℕ) × (k < n) × IsAt known k (path_of e))

-- of whatever program the table and the groups are
abbrev pub SaysCount : Table → Groups → (Program → Type 0) → Type 0
SaysCount t g T = (p : Program) → IsFilled p t → AreGroups p t.known.items g → T p

-- the path of r is a class, and r isn't k
abbrev pub SaysOther : Table → ℕ → ℕ → Bool → Type 0
SaysOther t r k told = (p : Program) (R : Path) → IsFilled p t → IsAt t.known.items r R → IsTrue told ↔ (IsClass p R × (r ≡ k → ⊥))

-- S is the path of one of the numbers, a class, and its number isn't k
pub record AmongOthers (p : Program) (known : List ShownPath) (Among : ℕ → Type 0) (k : ℕ) (S : Path) : Type 0 where
  pub number : ℕ
  pub among : Among number
  pub at : IsAt known number S
  pub class : IsClass p S
  pub other : number ≡ k → ⊥

abbrev pub SaysOthers : Table → List ℕ → ℕ → ℕ → Type 0
SaysOthers t among k told = (p : Program) → IsFilled p t → Counts (AmongOthers p t.known.items (Contains among) k) told
