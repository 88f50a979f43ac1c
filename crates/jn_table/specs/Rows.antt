-- What a row says of a path.
use Rattle.std.specs.Prelude.{◌≡◌, ◌↔◌, List, [], ◌∷◌, Contains, slice_get, Option, Some, None}
use Rattle.std.specs.List.Sorted.{IsStrictlySortedBy}
use Rattle.jn_reach.specs.Each.{Each}
use Rattle.jn_base.specs.declared.tree.Name.{Name}
use Rattle.jn_base.specs.declared.tree.Kind.{Kind}
use Rattle.jn_base.specs.declared.tree.Program.{Program}
use Rattle.jn_base.specs.declared.path.Path.{Path as ShownPath}
use Rattle.jn_base.specs.Paths.{Path, shown}
use Rattle.jn_base.specs.Supers.{Direct, Sup, Member}
use Rattle.jn_base.specs.ClassOrder.{class_cmp, name_cmp}
use Rattle.jn_base.specs.Members.{HasKind, Decls, FieldDecls}
use Rattle.jn_table.specs.declared.class.ClassId.{ClassId}
use Rattle.jn_table.specs.declared.class.Row.{Row}
use Rattle.jn_table.specs.declared.class.RowMember.{RowMember}

-- the number stands for the path R, where these are the numbered paths
abbrev pub IsNumber : List ShownPath → ClassId → Path → Type 0
IsNumber known id R = slice_get known id.0 ≡ Some (shown R)

-- the paths of which T holds, each once, in class order
pub record ArePaths (p : Program) (T : Path → Type 0) (paths : List Path) : Type 0 where
  pub exact : (S : Path) → Contains paths S ↔ T S
  pub in_order : IsStrictlySortedBy (class_cmp p) paths

-- the names of which T holds, each once, in the order of their bytes
pub record AreNames (p : Program) (T : Name → Type 0) (names : List Name) : Type 0 where
  pub exact : (n : Name) → Contains names n ↔ T n
  pub in_order : IsStrictlySortedBy (name_cmp p) names

-- the numbers of the paths of which T holds, in class order
pub record AreClasses (p : Program) (known : List ShownPath) (T : Path → Type 0) (ids : List ClassId) : Type 0 where
  pub paths : List Path
  pub are : ArePaths p T paths
  pub numbered : Each (λ S id. IsNumber known id S) paths ids

-- the member C of R, with its number
pub record IsMember (known : List ShownPath) (R : Path) (C : Name) (m : RowMember) : Type 0 where
  pub name : m.name ≡ C
  pub id : IsNumber known m.id (C ∷ R)

-- the members of R, in the order of their names
pub record AreMembers (p : Program) (known : List ShownPath) (R : Path) (members : List RowMember) : Type 0 where
  pub names : List Name
  pub are : AreNames p (Member p R) names
  pub numbered : Each (IsMember known R) names members

-- none for a top-level name, else the number of the path without its last name
pub data IsUp (known : List ShownPath) : Path → Option ClassId → Type 0 where
  top : {C : Name} → IsUp known (C ∷ []) None
  under : {C D : Name} {P : Path} {id : ClassId} → IsNumber known id (D ∷ P) → IsUp known (C ∷ D ∷ P) (Some id)

-- some declaration at a path in Sup(R) has a method, a field, of that name
abbrev pub HasMethod : Program → Path → Name → Type 0
HasMethod p R m = (Q : Path) × Decls p R m Q

abbrev pub HasField : Program → Path → Name → Type 0
HasField p R f = (Q : Path) × FieldDecls p R f Q

-- the row is that of the path R
pub record IsRow (p : Program) (known : List ShownPath) (R : Path) (row : Row) : Type 0 where
  pub path : row.path ≡ shown R
  pub kind : (k : Kind) → HasKind p R k ↔ (k ≡ row.kind)
  pub up : IsUp known R row.up
  pub direct : AreClasses p known (Direct p R) row.direct.items
  pub sups : AreClasses p known (Sup p R) row.sups.items
  pub members : AreMembers p known R row.members.items
  pub methods : AreNames p (HasMethod p R) row.methods.items
  pub fields : AreNames p (HasField p R) row.fields.items
