-- The rows of a universe's paths, by their numbers.
use Rattle.std.specs.Prelude.{◌≡◌, ◌<◌, ◌↔◌, ◌⊎◌, ℕ, List, ◌∷◌, Any, All, Contains, Option, Some, None, length, map, slice_get}
use Rattle.std.specs.declared.vec.Vec.{Vec}
use Rattle.std.specs.declared.alloc.Global.{Global}
use Rattle.std.specs.List.Sorted.{IsStrictlySortedBy, IsStrictlyIncreasing}
use Rattle.jn_reach.specs.Chain.{Steps}
use Rattle.jn_reach.specs.Graph.{HasEdge, InRange, IsClosure}
use Rattle.jn_base.specs.declared.tree.Name.{Name}
use Rattle.jn_base.specs.declared.tree.Text.{Text}
use Rattle.jn_base.specs.declared.tree.Kind.{Kind}
use Rattle.jn_base.specs.declared.tree.Kind.TheVariants as kind
use Rattle.jn_base.specs.declared.tree.Program.{Program}
use Rattle.jn_base.specs.Paths.{Path, shown}
use Rattle.jn_table.specs.Exact.{IsFlat}
use Rattle.jn_table.specs.Order.{order_cmp}
use Rattle.jn_table.specs.Own.{IsFlagAt, HasAt, IsOwnOf, MixedAt}
use Rattle.jn_table.specs.Nodes.{AreNodes, FitNodes}
use Rattle.jn_base.specs.ProgramNames.{IsNamed}
use Rattle.jn_table.specs.Ups.{IsUnder}
use Rattle.jn_table.specs.declared.class.ClassId.{ClassId}
use Rattle.jn_table.specs.declared.class.Row.{Row}
use Rattle.jn_table.specs.declared.class.RowMember.{RowMember}
use Rattle.jn_table.specs.declared.entry.Entry.{Entry}
use Rattle.jn_table.specs.declared.fault.TableFault.{TableFault}
use Rattle.jn_table.specs.declared.fault.TableFault.TheVariants as fault
use Rattle.jn_table.specs.declared.own.Own.{Own}
use Rattle.jn_table.specs.declared.row.Numbers.{Numbers}
use Rattle.jn_table.specs.declared.universe.Universe.{Universe}

-- each part has something for each path, and no number is too great
pub record FitUniverse (u : Universe) : Type 0 where
  pub nodes : FitNodes u.nodes
  pub sups_long : length u.sups.items ≡ length u.nodes.paths.items
  pub sups_in : InRange u.sups.items (length u.nodes.paths.items)
  pub sups_up : All (λ row. IsStrictlyIncreasing row.items) u.sups.items
  pub classes_long : length u.own.classes.items ≡ length u.nodes.paths.items
  pub packages_long : length u.own.packages.items ≡ length u.nodes.paths.items
  pub methods_long : length u.own.methods.items ≡ length u.nodes.paths.items
  pub fields_long : length u.own.fields.items ≡ length u.nodes.paths.items

-- it is that of the program p, of which the entries are the declarations
pub record IsUniverseOf (p : Program) (es : List Entry) (u : Universe) : Type 0 where
  pub flat : IsFlat p es
  pub named : IsNamed p
  pub nodes : AreNodes p u.nodes
  pub sups : IsClosure u.nodes.direct.items u.sups.items
  pub own : IsOwnOf es u.nodes.paths.items u.own

-- a class where one of the flags says so
abbrev pub KindBy : Own → List ℕ → Kind → Type 0
KindBy own sups k =
    ((k ≡ kind.Class) × Any (IsFlagAt own.classes.items) sups) ⊎
    ((k ≡ kind.Package) × (Any (IsFlagAt own.classes.items) sups → ⊥))

-- the number of R without its last name, where this is one of the paths
abbrev pub UpBy : List Path → Path → Option ClassId → Type 0
UpBy paths R None = (k : ℕ) (U : Path) → slice_get paths k ≡ Some U → IsUnder R U → ⊥
UpBy paths R (Some id) = (U : Path) × (slice_get paths id.0 ≡ Some U) × IsUnder R U

abbrev pub class_id : ℕ → ClassId
class_id n = record { 0 = n }

-- the members of R among the first n paths, in the order of their numbers
pub record MembersUpTo (paths : List Path) (R : Path) (n : ℕ) (members : List RowMember) : Type 0 where
  pub sound : (j : ℕ) (m : RowMember) → slice_get members j ≡ Some m
      → (m.id.0 < n) × (slice_get paths m.id.0 ≡ Some (m.name ∷ R))
  pub complete : (k : ℕ) (C : Name) → k < n → slice_get paths k ≡ Some (C ∷ R)
      → (j : ℕ) × (m : RowMember) × (slice_get members j ≡ Some m) × (m.id.0 ≡ k)
  pub ascending : (i j : ℕ) (a b : RowMember) → i < j
      → slice_get members i ≡ Some a → slice_get members j ≡ Some b → a.id.0 < b.id.0

-- the names of which T holds, each once, in order
pub record OrderedBy (texts : List Text) (T : Name → Type 0) (order : List Name) : Type 0 where
  pub exact : (C : Name) → Contains order C ↔ T C
  pub in_order : IsStrictlySortedBy (order_cmp texts) order

-- the numbers in the row of that number
pub record NumbersOf (u : Universe) (number : ℕ) (numbers : Numbers) : Type 0 where
  pub direct : (below : Vec ℕ Global) → slice_get u.nodes.direct.items number ≡ Some below
      → numbers.direct.items ≡ map class_id below.items
  pub sups : (above : Vec ℕ Global) → slice_get u.sups.items number ≡ Some above
      → numbers.sups.items ≡ map class_id above.items
  pub members : (R : Path) → slice_get u.nodes.paths.items number ≡ Some R
      → MembersUpTo u.nodes.paths.items R (length u.nodes.paths.items) numbers.members.items

-- the row of that number
pub record RowOf (texts : List Text) (u : Universe) (number : ℕ) (row : Row) : Type 0 where
  pub R : Path
  pub at : slice_get u.nodes.paths.items number ≡ Some R
  pub above : Vec ℕ Global
  pub above_at : slice_get u.sups.items number ≡ Some above
  pub below : Vec ℕ Global
  pub below_at : slice_get u.nodes.direct.items number ≡ Some below
  pub path : row.path ≡ shown R
  pub kind_by : KindBy u.own above.items row.kind
  pub up_by : UpBy u.nodes.paths.items R row.up
  pub direct : row.direct.items ≡ map class_id below.items
  pub sups : row.sups.items ≡ map class_id above.items
  pub members : MembersUpTo u.nodes.paths.items R (length u.nodes.paths.items) row.members.items
  pub methods : OrderedBy texts (λ m. Any (HasAt u.own.methods.items m) above.items) row.methods.items
  pub fields : OrderedBy texts (λ f. Any (HasAt u.own.fields.items f) above.items) row.fields.items

-- the rows of the first n numbers
pub record RowsOf (texts : List Text) (u : Universe) (n : ℕ) (rows : List Row) : Type 0 where
  pub long : length rows ≡ n
  pub each : (k : ℕ) (row : Row) → slice_get rows k ≡ Some row → RowOf texts u k row

-- a path leads back to itself
abbrev pub CycleAt : Universe → ℕ → Type 0
CycleAt u k = Steps (HasEdge u.nodes.direct.items) k k

abbrev pub TwoKindsAt : Universe → ℕ → Type 0
TwoKindsAt u k = MixedAt u.own u.sups.items k

-- R is the path of the first number of which T holds
pub record FirstAt (u : Universe) (T : ℕ → Type 0) (R : Path) : Type 0 where
  pub number : ℕ
  pub at : slice_get u.nodes.paths.items number ≡ Some R
  pub holds : T number
  pub first : (k : ℕ) → k < number → T k → ⊥

abbrev pub NoneAt : (ℕ → Type 0) → Type 0
NoneAt T = (k : ℕ) → T k → ⊥

-- what is refused, by numbers
pub data RefusedBy (u : Universe) : TableFault → Type 0 where
  cycle_at : {R : Path} → FirstAt u (CycleAt u) R → RefusedBy u (fault.Cycle (shown R))
  kinds_at : {R : Path} → NoneAt (CycleAt u) → FirstAt u (TwoKindsAt u) R → RefusedBy u (fault.Kind (shown R))
  memory_at : RefusedBy u fault.Memory

pub record PassedBy (u : Universe) : Type 0 where
  pub no_cycle : NoneAt (CycleAt u)
  pub one_kind : NoneAt (TwoKindsAt u)
