-- One slot has one type, and takes what any of its views takes.
use Rattle.std.specs.Prelude.{◌≡◌}
use Rattle.jn_base.specs.declared.tree.Name.{Name}
use Rattle.jn_base.specs.declared.tree.Program.{Program}
use Rattle.jn_base.specs.declared.types.Ty.{Ty}
use Rattle.jn_base.specs.Paths.{Path}
use Rattle.jn_base.specs.TableRules.{DeclarationsPass}
use Rattle.jn_sem.specs.Values.{Value}
use Rattle.jn_sem.specs.Slots.{FieldType, Slot, IsSlot, this_viewed}
use Rattle.jn_sem.specs.LawsOfSlots.{FieldsPass}
use Rattle.jn_sem.specs.State.{Heap, IsIn}
use Rattle.jn_laws.specs.Reading.{IsReal, SlotFits}

pub record StoresOf (p : Program) : Type 0 where
  -- the views that have the slot have it for one field, of one type
  pub field : (V T : Path) (f g : Name) (s : Slot) → IsSlot p V f s → IsSlot p T g s → f ≡ g
  pub type : (V T : Path) (f : Name) (s : Slot) (t u : Ty) → IsSlot p V f s → IsSlot p T f s → FieldType p V f t → FieldType p T f u → t ≡ u
  -- what is in the type with `this` at the one view fits the slot at the other
  pub value : (h : Heap) (V T : Path) (f : Name) (s : Slot) (t : Ty) (v : Value) → IsSlot p V f s → IsSlot p T f s → FieldType p V f t
      → IsReal p h v → IsIn p (this_viewed V) h t v → SlotFits p h T t v

abbrev pub SlotsTakeValues : Type 0
SlotsTakeValues = (p : Program) → DeclarationsPass p → FieldsPass p → StoresOf p
