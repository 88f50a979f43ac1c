-- The rows of groups.
use Rattle.std.specs.Prelude.{◌≡◌, ◌↔◌, ◌<◌, ℕ, List, [], ◌∷◌, Option, slice_get, slice_index, Some, length, map}
use Rattle.std.specs.Option.{MatchOption}
use Rattle.jn_reach.specs.Equivalent.{Equivalent}
use Rattle.jn_base.specs.declared.tree.Name.{Name}
use Rattle.jn_base.specs.declared.tree.Program.{Program}
use Rattle.jn_base.specs.declared.path.Path.{Path as ShownPath}
use Rattle.jn_base.specs.Paths.{Path}
use Rattle.jn_table.specs.declared.table.Table.{Table}
use Rattle.jn_table.specs.Rows.{IsNumber}
use Rattle.jn_table.specs.Tables.{IsFilled}
use Rattle.jn_sem.specs.Sharing.{IsClass, Shares, family_of}
use Rattle.jn_sem.specs.NotFamily.{listed_names}
use Rattle.jn_share.specs.declared.listed.ListedName.{ListedName}
use Rattle.jn_share.specs.declared.rows.FamilyClass.{FamilyClass}
use Rattle.jn_share.specs.declared.rows.GroupRow.{GroupRow}
use Rattle.jn_share.specs.Listing.{listed_of}
use Rattle.jn_share.specs.Pairing.{IsAt}
use Rattle.jn_share.specs.Prepared.{FamiliesTo}

-- two numbers have the same first one exactly where their paths are linked
abbrev pub LinkFirsts : Program → List ShownPath → List ℕ → Type 0
LinkFirsts p known firsts = (i j : ℕ) (R S : Path) → IsAt known i R → IsAt known j S
    → (slice_index firsts i ≡ slice_index firsts j) ↔ Equivalent (Shares p) R S

-- the class R, whose number is k, with its family
pub record IsOwn (p : Program) (known : List ShownPath) (k : ℕ) (R : Path) (x : FamilyClass) : Type 0 where
  pub class : IsClass p R
  pub number : x.class.0 ≡ k
  pub X : Name
  pub family : family_of R ≡ Some X
  pub family_is : IsNumber known x.family (X ∷ [])

-- a class with its family is told exactly where R is a class
abbrev pub OwnIs : Program → List ShownPath → ℕ → Path → Option FamilyClass → Type 0
OwnIs p known k R told = MatchOption told (IsClass p R → ⊥) (IsOwn p known k R)

-- the row is that of R, whose number is k
pub record IsGroupRow (p : Program) (known : List ShownPath) (firsts : List ℕ) (k : ℕ) (R : Path) (row : GroupRow) : Type 0 where
  pub group : (f : ℕ) → (row.group ≡ Some f) ↔ (IsClass p R × (slice_index firsts k ≡ f))
  pub own : OwnIs p known k R row.own

-- the rows are those of the first n numbers
pub record GroupRowsTo (p : Program) (known : List ShownPath) (firsts : List ℕ) (n : ℕ) (rows : List GroupRow) : Type 0 where
  pub each : (k : ℕ) (R : Path) → k < n → IsAt known k R → (row : GroupRow) × (slice_get rows k ≡ Some row) × IsGroupRow p known firsts k R row

-- of each program whose universe the table numbers and whose families these are, T holds of the path at k
abbrev pub SaysOwn : Table → List ℕ → ℕ → (Program → Path → Type 0) → Type 0
SaysOwn t families k T = (p : Program) (R : Path) → IsFilled p t → FamiliesTo t.known.items (length t.known.items) families → IsAt t.known.items k R → T p R

-- the group of the path at k: a class has its first number
abbrev pub SaysGroup : Table → List ℕ → ℕ → Option ℕ → Type 0
SaysGroup t firsts k told = (p : Program) (R : Path) → IsFilled p t → IsAt t.known.items k R
    → (f : ℕ) → (told ≡ Some f) ↔ (IsClass p R × (slice_index firsts k ≡ f))

-- the rows are those of all numbers
abbrev pub SaysRows : Table → List ℕ → List ℕ → List GroupRow → Type 0
SaysRows t firsts families rows = (p : Program) → IsFilled p t → FamiliesTo t.known.items (length t.known.items) families
    → GroupRowsTo p t.known.items firsts (length t.known.items) rows

-- the first numbers link the paths of the program whose listed names these are, and whose families
abbrev pub SaysLinked : Table → List ℕ → List ListedName → List ℕ → Type 0
SaysLinked t families names firsts = (p : Program) → IsFilled p t → FamiliesTo t.known.items (length t.known.items) families
    → map listed_of names ≡ listed_names p → LinkFirsts p t.known.items firsts
