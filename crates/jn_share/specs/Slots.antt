-- Of which program slots are, and what their calls say.
use Rattle.std.specs.Prelude.{◌≡◌, ◌<◌, ◌↔◌, ℕ, suc, List, Contains, Option, Some, None, slice_get, Bool, true, IsTrue, Result, Ok, Err}
use Rattle.jn_base.specs.declared.tree.Name.{Name}
use Rattle.jn_base.specs.declared.tree.Field.{Field}
use Rattle.jn_base.specs.declared.tree.Program.{Program}
use Rattle.jn_base.specs.declared.path.Path.{Path as ShownPath}
use Rattle.jn_base.specs.declared.refusal.Refusal.{Refusal}
use Rattle.jn_base.specs.declared.types.Ty.{Ty}
use Rattle.jn_base.specs.Paths.{Path}
use Rattle.jn_base.specs.Members.{FieldAt}
use Rattle.jn_base.specs.TableRules.{DeclarationsPass}
use Rattle.jn_table.specs.declared.class.ClassId.{ClassId}
use Rattle.jn_table.specs.declared.field_types.FieldTy.{FieldTy}
use Rattle.jn_table.specs.declared.field_types.FieldTypes.{FieldTypes}
use Rattle.jn_table.specs.declared.table.Table.{Table}
use Rattle.jn_table.specs.Rows.{IsNumber}
use Rattle.jn_table.specs.Tables.{IsFilled}
use Rattle.jn_sem.specs.Values.{HasField}
use Rattle.jn_sem.specs.Sharing.{IsClass, Related}
use Rattle.jn_sem.specs.Slots.{FieldHangs, Slot, IsSlot, IsSize}
use Rattle.jn_sem.specs.Terms.{FieldTypeIs}
use Rattle.jn_sem.specs.LawsOfSlots.{FieldsPass}
use Rattle.jn_share.specs.declared.fault.ShareFault.{ShareFault}
use Rattle.jn_share.specs.declared.fault.ShareFault.TheVariants.{Refused, Memory}
use Rattle.jn_share.specs.declared.groups.Groups.{Groups}
use Rattle.jn_share.specs.declared.slots.FieldSlot.{FieldSlot}
use Rattle.jn_share.specs.declared.slots.SlotRow.{SlotRow}
use Rattle.jn_share.specs.declared.slots.Slots.{Slots}
use Rattle.jn_share.specs.Groups.{AreGroups}
use Rattle.jn_share.specs.Limits.{LimitRefused, LimitsPass}

-- ---- the types of the declared fields

-- the field f that is declared at Q has this type
pub record IsTyped (p : Program) (Q : Path) (f : Name) (ty : Ty) : Type 0 where
  pub field : Field
  pub at : FieldAt p Q f field
  pub type : FieldTypeIs p Q f field.ty ty

-- the entry is that of the field f that is declared at Q
pub record IsTypeOf (known : List ShownPath) (Q : Path) (f : Name) (x : FieldTy) : Type 0 where
  pub class : IsNumber known x.class Q
  pub field : x.field ≡ f

-- each entry has the type of a declared field, and each declared field has an entry
pub record AreFieldTypes (p : Program) (known : List ShownPath) (types : List FieldTy) : Type 0 where
  pub sound : (x : FieldTy) → Contains types x → (Q : Path) × IsNumber known x.class Q × IsTyped p Q x.field x.ty
  pub complete : (Q : Path) (f : Name) (field : Field) → FieldAt p Q f field → (x : FieldTy) × Contains types x × IsTypeOf known Q f x

-- ---- what slots are built from

-- A table of p in which the universe is filled, its groups and its field types. The declarations and the table of p pass, no class
-- has a field with two declarations, and field types fit their classes.
pub record SlotsAsked (p : Program) (t : Table) (g : Groups) (types : FieldTypes) : Type 0 where
  pub filled : IsFilled p t
  pub declarations : DeclarationsPass p
  pub groups : AreGroups p t.known.items g
  pub typed : AreFieldTypes p t.known.items types.list.items
  pub passes : FieldsPass p

-- ---- slots

-- the row of the number has an entry for the field
pub record HasEntry (rows : List SlotRow) (id : ClassId) (f : Name) (entry : FieldSlot) : Type 0 where
  pub row : SlotRow
  pub at : slice_get rows id.0 ≡ Some row
  pub among : Contains row.fields.items entry
  pub field : entry.field ≡ f

-- the field f of the number has that slot number
abbrev pub HasSlot : Slots → ClassId → Name → ℕ → Type 0
HasSlot s id f n = (entry : FieldSlot) × HasEntry s.rows.items id f entry × (entry.slot ≡ n)

-- the field f of the number is marked as one whose type hangs on `this`
abbrev pub IsHanging : Slots → ClassId → Name → Type 0
IsHanging s id f = (entry : FieldSlot) × HasEntry s.rows.items id f entry × (entry.hangs ≡ true)

-- the size in the row of the number
pub record HasSize (s : Slots) (id : ClassId) (size : ℕ) : Type 0 where
  pub row : SlotRow
  pub at : slice_get s.rows.items id.0 ≡ Some row
  pub is : row.size ≡ size

-- both fields have one slot
abbrev pub HaveOneSlot : Program → Path → Name → Path → Name → Type 0
HaveOneSlot p V f T g = (s : Slot) × IsSlot p V f s × IsSlot p T g s

-- a field of a class of the group of V has that slot number
pub record UsesSlot (p : Program) (known : List ShownPath) (s : Slots) (V : Path) (n : ℕ) : Type 0 where
  pub class : Path
  pub related : Related p V class
  pub id : ClassId
  pub number : IsNumber known id class
  pub field : Name
  pub slot : HasSlot s id field n

-- what is said of the class V, whose number is `id`
pub record AreSlotsOf (p : Program) (known : List ShownPath) (s : Slots) (id : ClassId) (V : Path) : Type 0 where
  -- each of its fields has one slot number, and nothing else has one
  pub fields : (f : Name) → HasField p V f ↔ ((n : ℕ) × HasSlot s id f n)
  pub once : (f : Name) (m n : ℕ) → HasSlot s id f m → HasSlot s id f n → m ≡ n
  pub entry : (f : Name) (d e : FieldSlot) → HasEntry s.rows.items id f d → HasEntry s.rows.items id f e → d ≡ e
  -- numbers are below the size less 1, and each of these is used
  pub below : (f : Name) (n size : ℕ) → HasSlot s id f n → HasSize s id size → suc n < size
  pub used : (n size : ℕ) → HasSize s id size → suc n < size → UsesSlot p known s V n
  -- in one group two of them are equal exactly where the slots are
  pub equal : (T : Path) (other : ClassId) (f g : Name) (m n : ℕ) → IsNumber known other T → Related p V T → HasSlot s id f m → HasSlot s other g n
      → (m ≡ n) ↔ HaveOneSlot p V f T g
  -- the size is that of the group
  pub size : (n : ℕ) → HasSize s id n → IsSize p V n
  pub sized : (n : ℕ) × HasSize s id n
  -- the marks are those of the fields whose types hang on `this`
  pub hangs : (f : Name) → IsHanging s id f ↔ FieldHangs p V f

-- the slots of p, whose universe is numbered so; a package has no slot, and the size 0
pub record AreSlots (p : Program) (known : List ShownPath) (s : Slots) : Type 0 where
  pub classes : (id : ClassId) (V : Path) → IsNumber known id V → IsClass p V → AreSlotsOf p known s id V
  pub no_slot : (id : ClassId) (V : Path) (f : Name) (n : ℕ) → IsNumber known id V → (IsClass p V → ⊥) → HasSlot s id f n → ⊥
  pub no_size : (id : ClassId) (V : Path) (n : ℕ) → IsNumber known id V → (IsClass p V → ⊥) → HasSize s id n → n ≡ 0

-- ---- what is built

-- No limit is passed and these are the slots, or it is the refusal of the first limit that is passed; of want of memory nothing is said.
abbrev pub SlotsGive : Program → List ShownPath → Result Slots ShareFault → Type 0
SlotsGive p known (Ok s) = LimitsPass p × AreSlots p known s
SlotsGive p known (Err (Refused r)) = LimitRefused p r
SlotsGive p known (Err Memory) = Unit {0}

-- it is this refusal, or want of memory
abbrev pub SlotsRefusedOr : Refusal → Result Slots ShareFault → Type 0
SlotsRefusedOr r (Ok s) = ⊥
SlotsRefusedOr r (Err (Refused q)) = q ≡ r
SlotsRefusedOr r (Err Memory) = Unit {0}

-- ---- what the calls say

-- the entry of the field, none where the row has none
abbrev pub FindsEntry : List FieldSlot → Name → Option FieldSlot → Type 0
FindsEntry entries f (Some e) = Contains entries e × (e.field ≡ f)
FindsEntry entries f None = (e : FieldSlot) → Contains entries e → e.field ≡ f → ⊥

-- the entry of the field of the number, none where it has none
abbrev pub EntryTold : List SlotRow → ClassId → Name → Option FieldSlot → Type 0
EntryTold rows id f (Some e) = HasEntry rows id f e
EntryTold rows id f None = (e : FieldSlot) → HasEntry rows id f e → ⊥

-- the slot number of the field, none where there is no such field
abbrev pub SlotTold : Slots → ClassId → Name → Option ℕ → Type 0
SlotTold s id f (Some n) = HasSlot s id f n
SlotTold s id f None = (n : ℕ) → HasSlot s id f n → ⊥

-- of whatever program the slots are, the answer is none exactly where V has no field f
abbrev pub SaysNoSlot : Slots → ClassId → Name → Option ℕ → Type 0
SaysNoSlot s id f told = (p : Program) (known : List ShownPath) (V : Path) → AreSlots p known s → IsNumber known id V → IsClass p V
    → (told ≡ None) ↔ (HasField p V f → ⊥)

-- the size of the group of V
abbrev pub SaysSize : Slots → ClassId → ℕ → Type 0
SaysSize s id told = (p : Program) (known : List ShownPath) (V : Path) → AreSlots p known s → IsNumber known id V → IsClass p V → IsSize p V told

-- the size 0 of a package
abbrev pub SaysNoSize : Slots → ClassId → ℕ → Type 0
SaysNoSize s id told = (p : Program) (known : List ShownPath) (V : Path) → AreSlots p known s → IsNumber known id V → (IsClass p V → ⊥) → told ≡ 0

-- whether V has f and its type hangs on `this`
abbrev pub SaysHangs : Slots → ClassId → Name → Bool → Type 0
SaysHangs s id f told = (p : Program) (known : List ShownPath) (V : Path) → AreSlots p known s → IsNumber known id V → IsClass p V
    → IsTrue told ↔ FieldHangs p V f
