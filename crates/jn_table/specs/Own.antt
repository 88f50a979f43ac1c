-- What the declarations at each of some paths are and have.
use Rattle.std.specs.Prelude.{◌≡◌, ◌<◌, ◌↔◌, ℕ, List, All, Contains, length, reverse, slice_get, Some, Bool, true, IsTrue, Any}
use Rattle.std.specs.declared.vec.Vec.{Vec}
use Rattle.std.specs.declared.alloc.Global.{Global}
use Rattle.jn_reach.specs.Each.{Each}
use Rattle.jn_reach.specs.Graph.{Graph}
use Rattle.jn_base.specs.declared.tree.Name.{Name}
use Rattle.jn_base.specs.declared.tree.Kind.{Kind}
use Rattle.jn_base.specs.declared.tree.Kind.TheVariants as kind
use Rattle.jn_base.specs.declared.path.Path.{Path as ShownPath}
use Rattle.jn_base.specs.Paths.{Path}
use Rattle.jn_table.specs.Gather.{AreAtPaths, OwnIn, KindIn, IsKindAt, HasNameAt}
use Rattle.jn_table.specs.declared.entry.Entry.{Entry}
use Rattle.jn_table.specs.declared.gather.Part.{Part}
use Rattle.jn_table.specs.declared.gather.Part.TheVariants as part
use Rattle.jn_table.specs.declared.own.Own.{Own}

-- the flag says whether a declaration at the path is of that kind
abbrev pub OwnKinds : List Entry → Kind → Path → Bool → Type 0
OwnKinds es k R flag = IsTrue flag ↔ KindIn es R k

-- the names that declarations at the path have in that part
abbrev pub OwnNames : List Entry → Part → Path → Vec Name Global → Type 0
OwnNames es part R names = (D : Name) → Contains names.items D ↔ OwnIn es R part D

-- the same by the numbers of the entries that are at the path
abbrev pub KindsAt : List Entry → Kind → Vec ℕ Global → Bool → Type 0
KindsAt es k row flag = IsTrue flag ↔ Any (IsKindAt es k) row.items

abbrev pub NamesAt : List Entry → Part → Vec ℕ Global → Vec Name Global → Type 0
NamesAt es part row names = (D : Name) → Contains names.items D ↔ Any (HasNameAt es part D) row.items

-- for each path, which is given with the outermost name first, the numbers of the entries that are at it
pub record AreDeclared (es : List Entry) (known : List ShownPath) (rows : Graph) : Type 0 where
  pub long : length rows ≡ length known
  pub within : All (λ row. All (λ i. i < length es) row.items) rows
  pub sound : (k j i : ℕ) (q : ShownPath) (row : Vec ℕ Global) (e : Entry) → slice_get known k ≡ Some q
      → slice_get rows k ≡ Some row → slice_get row.items j ≡ Some i → slice_get es i ≡ Some e
      → e.path ≡ reverse q.names
  pub complete : (k i : ℕ) (q : ShownPath) (row : Vec ℕ Global) (e : Entry) → slice_get known k ≡ Some q
      → slice_get rows k ≡ Some row → slice_get es i ≡ Some e → e.path ≡ reverse q.names
      → ((j : ℕ) → slice_get row.items j ≡ Some i → ⊥) → ⊥

pub record IsOwnOf (es : List Entry) (paths : List Path) (own : Own) : Type 0 where
  pub declared : AreAtPaths es paths own.declared.items
  pub classes : Each (OwnKinds es kind.Class) paths own.classes.items
  pub packages : Each (OwnKinds es kind.Package) paths own.packages.items
  pub methods : Each (OwnNames es part.Methods) paths own.methods.items
  pub fields : Each (OwnNames es part.Fields) paths own.fields.items

-- the flag of that number is set
abbrev pub IsFlagAt : List Bool → ℕ → Type 0
IsFlagAt flags n = slice_get flags n ≡ Some true

-- the row of that number has the name
pub record HasAt (rows : List (Vec Name Global)) (D : Name) (n : ℕ) : Type 0 where
  pub row : Vec Name Global
  pub at : slice_get rows n ≡ Some row
  pub has : Contains row.items D

-- the flags say of those numbers that there are both kinds
pub record IsMixedBy (own : Own) (sups : List ℕ) : Type 0 where
  pub classes : Any (IsFlagAt own.classes.items) sups
  pub packages : Any (IsFlagAt own.packages.items) sups

-- they say it of the supers of that number
pub record MixedAt (own : Own) (sups : List (Vec ℕ Global)) (k : ℕ) : Type 0 where
  pub row : Vec ℕ Global
  pub at : slice_get sups k ≡ Some row
  pub mixed : IsMixedBy own row.items
