-- What a search for a declaration, and for a home, gives.
use Rattle.std.specs.Prelude.{◌≡◌, List, ◌++◌, reverse, Contains, Option, Some, None}
use Rattle.jn_base.specs.declared.tree.Name.{Name}
use Rattle.jn_base.specs.declared.tree.Place.{Place}
use Rattle.jn_base.specs.declared.tree.Program.{Program}
use Rattle.jn_base.specs.declared.tree.Decl.{Decl}
use Rattle.jn_base.specs.Paths.{Path, StandsAt, Declared}
use Rattle.jn_base.specs.Members.{IsHome}

-- a declaration of this name, or none where the list has none
abbrev pub Finds : List Decl → Name → Option Decl → Type 0
Finds ds x (Some d) = Contains ds d × (d.name.name ≡ x)
Finds ds x None = (d : Decl) → Contains ds d → d.name.name ≡ x → ⊥

-- Where a search for the home of R is: d stands at the front of R that was passed, and these names of R are left, the next
-- one first.
pub record OnWay (p : Program) (R : Path) (d : Decl) (left : List Name) : Type 0 where
  pub passed : Path
  pub whole : R ≡ reverse left ++ passed
  pub stands : StandsAt p passed d

-- the home of a path, or none where it has none
abbrev pub HomeIs : Program → Path → Option Place → Type 0
HomeIs p R (Some at) = IsHome p R at
HomeIs p R None = (at : Place) → IsHome p R at → ⊥

-- the declaration at a path, or none where it isn't declared
abbrev pub DeclIs : Program → Path → Option Decl → Type 0
DeclIs p R (Some d) = StandsAt p R d
DeclIs p R None = Declared p R → ⊥
