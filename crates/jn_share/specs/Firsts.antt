-- The first class that has a field in one slot with a class.
use Rattle.std.specs.Prelude.{◌≡◌, ◌<◌, ◌↔◌, ◌⊎◌, ℕ, List, [], Contains, slice_get, Some, None, Option, true}
use Rattle.std.specs.declared.vec.Vec.{Vec}
use Rattle.std.specs.declared.alloc.Global.{Global}
use Rattle.jn_base.specs.declared.tree.Name.{Name}
use Rattle.jn_base.specs.declared.tree.Program.{Program}
use Rattle.jn_base.specs.declared.path.Path.{Path as ShownPath}
use Rattle.jn_base.specs.Paths.{Path}
use Rattle.jn_base.specs.ClassOrder.{IsFirst}
use Rattle.jn_table.specs.declared.class.ClassId.{ClassId}
use Rattle.jn_table.specs.declared.table.Table.{Table}
use Rattle.jn_table.specs.Rows.{IsNumber}
use Rattle.jn_table.specs.Tables.{IsFilled}
use Rattle.jn_table.specs.declared.field_types.FieldTypes.{FieldTypes}
use Rattle.jn_sem.specs.Values.{HasField}
use Rattle.jn_sem.specs.Sharing.{IsClass, Related}
use Rattle.jn_sem.specs.Slots.{OneSlot, FieldHangs}
use Rattle.jn_share.specs.declared.field_first.FieldFirst.{FieldFirst}
use Rattle.jn_share.specs.Pairing.{IsAt}
use Rattle.jn_share.specs.Parting.{OtherField}
use Rattle.jn_share.specs.declared.prepared.Prepared.{Prepared}
use Rattle.jn_share.specs.Prepared.{IsDecl, IsPrepared}

-- the number of a declaration of the field f of V, none where V has no such field
abbrev pub DeclOf : Program → Table → FieldTypes → Path → Name → Option ℕ → Type 0
DeclOf p t types V f None = HasField p V f → ⊥
DeclOf p t types V f (Some d) = IsDecl p t.known.items types.list.items V f d

-- X hasn't the field, or not as one field with V
abbrev pub HasOther : Program → (Path → Path → Type 0) → Path → Name → Path → Type 0
HasOther p Same V f X = (HasField p X f → ⊥) ⊎ OtherField p Same X V f

-- the numbers are those of the classes that are related to V, as far as they are classes
abbrev pub AreRelated : Program → List ShownPath → List ℕ → Path → Type 0
AreRelated p known among V = (r : ℕ) (R : Path) → IsAt known r R → IsClass p R → Contains among r ↔ Related p R V

-- r is the number of the first class that has the field f in one slot with V
pub record IsFirstSlot (p : Program) (known : List ShownPath) (V : Path) (f : Name) (r : ℕ) : Type 0 where
  pub class : Path
  pub at : IsAt known r class
  pub first : IsFirst p (λ W. OneSlot p W V f) class

-- the place at which the name stands
abbrev pub PlaceIs : List Name → Name → Option ℕ → Type 0
PlaceIs names n None = Contains names n → ⊥
PlaceIs names n (Some i) = slice_get names i ≡ Some n

-- of each program of which this is prepared, and of the path of the number
abbrev pub SaysDecl : Table → Prepared → ClassId → Name → Option ℕ → Type 0
SaysDecl t all id f told = (p : Program) (types : FieldTypes) (V : Path) → IsFilled p t → IsPrepared p t types.list.items all → IsNumber t.known.items id V
    → DeclOf p t types V f told

-- ---- all fields of a class

-- what is found of the fields of the class V: each of them once, with the first class of its slot, and whether its type hangs on `this`
pub record AreFieldFirsts (p : Program) (known : List ShownPath) (V : Path) (row : List FieldFirst) : Type 0 where
  pub has : (f : Name) → HasField p V f ↔ ((x : FieldFirst) × Contains row x × (x.field ≡ f))
  pub once : (i j : ℕ) (x y : FieldFirst) → slice_get row i ≡ Some x → slice_get row j ≡ Some y → x.field ≡ y.field → i ≡ j
  pub first : (x : FieldFirst) → Contains row x → IsFirstSlot p known V x.field x.first
  pub hangs : (x : FieldFirst) → Contains row x → (x.hangs ≡ true) ↔ FieldHangs p V x.field

-- for each of the first n numbers; a package has none
abbrev pub FirstsTo : Program → Table → ℕ → List (Vec FieldFirst Global) → Type 0
FirstsTo p t n rows = (k : ℕ) (V : Path) → k < n → IsAt t.known.items k V → (row : Vec FieldFirst Global) × (slice_get rows k ≡ Some row)
    × (IsClass p V → AreFieldFirsts p t.known.items V row.items) × ((IsClass p V → ⊥) → row.items ≡ [])
