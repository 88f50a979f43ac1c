-- The pairs of classes that the listed names relate, and their numbers.
use Rattle.std.specs.Prelude.{◌≡◌, ◌⊎◌, ◌≤◌, ◌<◌, ℕ, List, [], ◌∷◌, Contains, Option, slice_get, Some, length}
use Rattle.std.specs.Option.{MatchOption}
use Rattle.std.specs.declared.vec.Vec.{Vec}
use Rattle.std.specs.declared.alloc.Global.{Global}
use Rattle.jn_reach.specs.Graph.{Graph, HasEdge}
use Rattle.jn_reach.specs.Pairs.{IsPair}
use Rattle.jn_base.specs.declared.tree.Name.{Name}
use Rattle.jn_base.specs.declared.tree.Kind.TheVariants as kind
use Rattle.jn_base.specs.declared.tree.Program.{Program}
use Rattle.jn_base.specs.declared.path.Path.{Path as ShownPath}
use Rattle.jn_base.specs.Members.{HasKind}
use Rattle.jn_base.specs.Paths.{Path, shown}
use Rattle.jn_table.specs.declared.table.Table.{Table}
use Rattle.jn_table.specs.Tables.{IsFilled}
use Rattle.jn_sem.specs.Sharing.{IsClass, family_of, in_family}
use Rattle.jn_sem.specs.NotFamily.{adapting, sharing, Listed}
use Rattle.jn_share.specs.declared.listed.ListedName.{ListedName}
use Rattle.jn_share.specs.Listing.{listed_of}

-- both paths are of one family
pub record HaveOneFamily (R S : Path) : Type 0 where
  pub X : Name
  pub one : family_of R ≡ Some X
  pub other : family_of S ≡ Some X

-- R is X.t for the list of `adapts` of X, or the path of the declaration that has the list of `shares`
pub data Meets (x : Listed) (R : Path) : Type 0 where
  by_family : x.listing ≡ adapting → 2 ≤ length R → HaveOneFamily R x.at → Meets x R
  by_path : x.listing ≡ sharing → R ≡ x.at → Meets x R

-- the listed name relates the classes R and S
pub record Relates (p : Program) (x : Listed) (R S : Path) : Type 0 where
  pub meets : Meets x R
  pub there : S ≡ in_family x.name.name R
  pub one : IsClass p R
  pub other : IsClass p S

-- the number is that of the path
abbrev pub IsAt : List ShownPath → ℕ → Path → Type 0
IsAt known k R = slice_get known k ≡ Some (shown R)

-- the listed name relates the classes of the numbers i and j
pub record RelatesAt (p : Program) (known : List ShownPath) (x : Listed) (i j : ℕ) : Type 0 where
  pub R : Path
  pub S : Path
  pub one_at : IsAt known i R
  pub other_at : IsAt known j S
  pub relates : Relates p x R S

-- a number is told exactly where the path is a class
abbrev pub ClassTold : Program → Path → Option ℕ → Type 0
ClassTold p R told = MatchOption told (HasKind p R kind.Class → ⊥) (λ j. IsClass p R)

-- the number with which the listed name relates the number k
abbrev pub PartnerIs : Program → List ShownPath → Listed → ℕ → Option ℕ → Type 0
PartnerIs p known x k o = MatchOption o ((j : ℕ) → RelatesAt p known x k j → ⊥) (λ j. RelatesAt p known x k j)

-- behind the pairs that were there stand those of the listed name, of whose first numbers T holds
pub record AddsPairs (p : Program) (known : List ShownPath) (x : Listed) (T : ℕ → Type 0) (before after : List (ℕ × ℕ)) : Type 0 where
  pub kept : (i j : ℕ) → IsPair before i j → IsPair after i j
  pub added : (i j : ℕ) → T i → RelatesAt p known x i j → IsPair after i j
  pub others : (i j : ℕ) → IsPair after i j → IsPair before i j ⊎ RelatesAt p known x i j

-- the numbers are those of row k
abbrev pub RowIs : Graph → ℕ → List ℕ → Type 0
RowIs rows k told = (row : Vec ℕ Global) → slice_get rows k ≡ Some row → told ≡ row.items

-- k is one of the first n of the numbers
abbrev pub StandsBefore : List ℕ → ℕ → ℕ → Type 0
StandsBefore numbers n k = (m : ℕ) × (m < n) × (slice_get numbers m ≡ Some k)

-- the row of a family has the numbers of all paths of the family
abbrev pub AreByFamily : List ShownPath → Graph → Type 0
AreByFamily known classes = (k : ℕ) (V : Path) (X : Name) → IsAt known k V → family_of V ≡ Some X → (f : ℕ) × IsAt known f (X ∷ []) × HasEdge classes f k

-- all pairs of the listed name are added, where the rows are those of the families
abbrev pub SaysAdds : Table → Graph → ListedName → List (ℕ × ℕ) → List (ℕ × ℕ) → Type 0
SaysAdds t classes x before after = (p : Program) → IsFilled p t → AreByFamily t.known.items classes
    → AddsPairs p t.known.items (listed_of x) (λ k. k < length t.known.items) before after

-- the pairs are those of the listed names
pub record ArePairs (p : Program) (known : List ShownPath) (xs : List Listed) (pairs : List (ℕ × ℕ)) : Type 0 where
  pub sound : (i j : ℕ) → IsPair pairs i j → (x : Listed) × Contains xs x × RelatesAt p known x i j
  pub complete : (i j : ℕ) (x : Listed) → Contains xs x → RelatesAt p known x i j → IsPair pairs i j
