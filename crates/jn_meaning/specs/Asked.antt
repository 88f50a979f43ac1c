-- What an act asks of a value, answered by a value or by how the run ends.
use Rattle.std.specs.Prelude.{◌≡◌, ℕ, List, ◌∷◌, [], Option, Some, None}
use Rattle.jn_steps.specs.Steps.{Goes, Faults}
use Rattle.jn_base.specs.declared.tree.Name.{Name}
use Rattle.jn_base.specs.declared.tree.Program.{Program}
use Rattle.jn_base.specs.declared.path.Path.{Path as ShownPath}
use Rattle.jn_base.specs.declared.types.Ty.{Ty}
use Rattle.jn_sem.specs.Values as sem
use Rattle.jn_sem.specs.Sharing.{family_of}
use Rattle.jn_sem.specs.Slots.{FieldType, IsSlot}
use Rattle.jn_sem.specs.State as state
use Rattle.jn_sem.specs.State.{slot_value}
use Rattle.jn_sem.specs.Asks.{OnOnly, OnSome}
use Rattle.jn_sem.specs.Does.{Did, Way, missing, masked, goes, on_viewed, on_read}
use Rattle.jn_table.specs.declared.class.ClassId.{ClassId}
use Rattle.jn_meaning.specs.declared.heap.Heap.{Heap}
use Rattle.jn_meaning.specs.declared.operators.Made.{Made}
use Rattle.jn_meaning.specs.declared.operators.Made.TheVariants as made
use Rattle.jn_meaning.specs.declared.value.Value.{Value}
use Rattle.jn_meaning.specs.Values.{path_at, value_of}
use Rattle.jn_meaning.specs.Heaps.{heap_of}
use Rattle.jn_meaning.specs.Frames.{ending_of}

-- the frame goes on with the value before these operands, or the run ends
abbrev pub made_did : List ShownPath → state.Frame → List sem.Value → state.Heap → Made → Did
made_did known F vs H (made.Gives v) = Goes (record F { vals = value_of known v ∷ vs }) H []
made_did known F vs H (made.Fails o) = Faults (ending_of o)

abbrev pub giving : state.Frame → List sem.Value → state.Heap → sem.Value → Way
giving F vs H w = goes F (w ∷ vs) H

-- the family of a class, none where its path has no name
abbrev pub FamilyTold : List ShownPath → ClassId → Option Name → Type 0
FamilyTold known id (Some Y) = family_of (path_at known id) ≡ Some Y
FamilyTold known id None = family_of (path_at known id) ≡ None

abbrev pub ViewTold : Program → List ShownPath → Name → Value → Made → Type 0
ViewTold p known Y v m = (F : state.Frame) (vs : List sem.Value) (H : state.Heap) → on_viewed p Y (value_of known v) (giving F vs H) (made_did known F vs H m)

abbrev pub ReadTold : Program → List ShownPath → ClassId → Ty → Value → Made → Type 0
ReadTold p known id t v m = (F : state.Frame) (vs : List sem.Value) (H : state.Heap) → on_read p (path_at known id) t (value_of known v) (giving F vs H) (made_did known F vs H m)

-- what the field of the object gives
abbrev pub GotTold : Program → List ShownPath → Heap → ℕ → ClassId → Name → Made → Type 0
GotTold p known h o id f m = (F : state.Frame) (vs : List sem.Value) →
    OnOnly (FieldType p (path_at known id) f) missing
    (λ t. OnOnly (IsSlot p (path_at known id) f) missing
    (λ s. OnSome (slot_value (heap_of known h) o s) masked (λ v. on_read p (path_at known id) t v (giving F vs (heap_of known h)))))
    (made_did known F vs (heap_of known h) m)
