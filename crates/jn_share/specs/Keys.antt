-- The slots of a group in their order, and the numbers of the fields of its classes.
use Rattle.std.specs.Prelude.{◌≡◌, ◌<◌, ◌≤◌, ◌↔◌, ℕ, suc, List, [], ◌++◌, Contains, slice_get, Some, length, Bool, false, IsTrue}
use Rattle.std.specs.declared.vec.Vec.{Vec}
use Rattle.std.specs.declared.alloc.Global.{Global}
use Rattle.jn_reach.specs.Each.{Each}
use Rattle.jn_base.specs.declared.tree.Name.{Name}
use Rattle.jn_base.specs.declared.tree.Program.{Program}
use Rattle.jn_base.specs.Paths.{Path}
use Rattle.jn_table.specs.declared.table.Table.{Table}
use Rattle.jn_table.specs.Tables.{IsFilled}
use Rattle.jn_sem.specs.Sharing.{IsClass}
use Rattle.jn_share.specs.Pairing.{IsAt}
use Rattle.jn_share.specs.declared.slots.SlotRow.{SlotRow}
use Rattle.jn_share.specs.declared.field_first.FieldFirst.{FieldFirst}
use Rattle.jn_share.specs.declared.keys.FieldKey.{FieldKey}
use Rattle.jn_share.specs.declared.slots.FieldSlot.{FieldSlot}

abbrev pub key : ℕ → Name → FieldKey
key m f = record { class = m; field = f }

-- no thing stands twice in the list
abbrev pub IsOnce : {A : Type 0} → List A → Type 0
IsOnce {A} xs = (i j : ℕ) (x : A) → slice_get xs i ≡ Some x → slice_get xs j ≡ Some x → i ≡ j

-- no field stands twice in the row
abbrev pub OnceEach : List FieldFirst → Type 0
OnceEach row = (i j : ℕ) (x y : FieldFirst) → slice_get row i ≡ Some x → slice_get row j ≡ Some y → x.field ≡ y.field → i ≡ j

-- the key is that of a field of the row of which m is the first class itself
pub record IsOwnKey (row : List FieldFirst) (m : ℕ) (k : FieldKey) : Type 0 where
  pub field : FieldFirst
  pub among : Contains row field
  pub first : field.first ≡ m
  pub is : k ≡ key m field.field

-- behind the keys that were there stand those of the row, each once
pub record AddsOwn (row : List FieldFirst) (m : ℕ) (before after : List FieldKey) : Type 0 where
  pub added : List FieldKey
  pub is : after ≡ before ++ added
  pub exact : (k : FieldKey) → Contains added k ↔ IsOwnKey row m k
  pub once : OnceEach row → IsOnce added

-- the key is that of a field of one of the numbers, of which that number is the first class itself
pub record IsKeyOf (rows : List (Vec FieldFirst Global)) (Among : ℕ → Type 0) (k : FieldKey) : Type 0 where
  pub among : Among k.class
  pub row : Vec FieldFirst Global
  pub at : slice_get rows k.class ≡ Some row
  pub own : IsOwnKey row.items k.class k

-- the keys of these numbers, each once where no row has a field twice
pub record AreKeys (rows : List (Vec FieldFirst Global)) (among : List ℕ) (keys : List FieldKey) : Type 0 where
  pub exact : (k : FieldKey) → Contains keys k ↔ IsKeyOf rows (Contains among) k
  pub once : ((m : ℕ) (row : Vec FieldFirst Global) → Contains among m → slice_get rows m ≡ Some row → OnceEach row.items) → IsOnce keys

-- the entry is that of the field: its slot number is the place of its key
pub record SlotFor (keys : List FieldKey) (x : FieldFirst) (entry : FieldSlot) : Type 0 where
  pub field : entry.field ≡ x.field
  pub hangs : entry.hangs ≡ x.hangs
  pub slot : length keys ≤ 250 → Contains keys (key x.first x.field) → slice_get keys entry.slot ≡ Some (key x.first x.field)

-- the row is that of the fields of a class
pub record SlotRowFor (keys : List FieldKey) (fields : List FieldFirst) (row : SlotRow) : Type 0 where
  pub each : Each (SlotFor keys) fields row.fields.items
  pub size : length keys ≤ 250 → row.size ≡ suc (length keys)

-- the keys of each group
abbrev pub KeysFor : List (Vec FieldFirst Global) → List (Vec ℕ Global) → List (Vec FieldKey Global) → Type 0
KeysFor rows numbers keys = Each (λ among ks. AreKeys rows among.items ks.items) numbers keys

-- the keys of the group of k
pub record KeysAt (keys : List (Vec FieldKey Global)) (starts : List ℕ) (k : ℕ) (ks : List FieldKey) : Type 0 where
  pub start : ℕ
  pub row : Vec FieldKey Global
  pub starts_at : slice_get starts k ≡ Some start
  pub keys_at : slice_get keys start ≡ Some row
  pub is : ks ≡ row.items

-- the fields of k
pub record FieldsAt (rows : List (Vec FieldFirst Global)) (k : ℕ) (fields : List FieldFirst) : Type 0 where
  pub row : Vec FieldFirst Global
  pub at : slice_get rows k ≡ Some row
  pub is : fields ≡ row.items

-- of whatever program the table is: the row is that of a class with those keys and fields, or the empty one of a package
abbrev pub SaysSlotRow : Table → List (Vec FieldKey Global) → List ℕ → List (Vec FieldFirst Global) → ℕ → SlotRow → Type 0
SaysSlotRow t keys starts rows k row = (p : Program) (V : Path) → IsFilled p t → IsAt t.known.items k V
    → (IsClass p V → (ks : List FieldKey) (fields : List FieldFirst) → KeysAt keys starts k ks → FieldsAt rows k fields → SlotRowFor ks fields row)
    × ((IsClass p V → ⊥) → (row.fields.items ≡ []) × (row.size ≡ 0))

abbrev pub SlotRowsTo : Table → List (Vec FieldKey Global) → List ℕ → List (Vec FieldFirst Global) → ℕ → List SlotRow → Type 0
SlotRowsTo t keys starts rows n out = (k : ℕ) → k < n → (row : SlotRow) × (slice_get out k ≡ Some row) × SaysSlotRow t keys starts rows k row

-- whether V, whose number is k, is a class whose group has more than 250 keys
abbrev pub SaysOver : Table → List (Vec FieldKey Global) → List ℕ → ℕ → Bool → Type 0
SaysOver t keys starts k told = (p : Program) (V : Path) → IsFilled p t → IsAt t.known.items k V → (IsTrue told → IsClass p V)
    × ((ks : List FieldKey) → KeysAt keys starts k ks → IsTrue told ↔ (IsClass p V × (250 < length ks)))

-- none of the first n numbers is
abbrev pub NoneOverTo : Table → List (Vec FieldKey Global) → List ℕ → ℕ → Type 0
NoneOverTo t keys starts n = (k : ℕ) → k < n → SaysOver t keys starts k false
