-- Acts that look at objects and at the program, as the meaning has them.
use Rattle.std.specs.Prelude.{◌≡◌, ℕ, List, slice_get}
use Rattle.jn_base.specs.declared.tree.Name.{Name}
use Rattle.jn_base.specs.declared.tree.Program.{Program}
use Rattle.jn_base.specs.declared.path.Path.{Path as ShownPath}
use Rattle.jn_base.specs.declared.types.Ty.{Ty}
use Rattle.jn_sem.specs.Acts as acts
use Rattle.jn_sem.specs.Values as sem
use Rattle.jn_sem.specs.Slots.{Slot as AtSlot, FieldType, IsSlot, this_viewed}
use Rattle.jn_sem.specs.State as state
use Rattle.jn_sem.specs.State.{IsIn, frame_views, with_slot, slot_value}
use Rattle.jn_sem.specs.Asks.{OnOnly, OnSome, OnTest}
use Rattle.jn_sem.specs.Does as does
use Rattle.jn_sem.specs.Does.{Way, missing, masked, foreign, goes, on_read}
use Rattle.jn_table.specs.declared.class.ClassId.{ClassId}
use Rattle.jn_table.specs.declared.table.Table.{Table}
use Rattle.jn_meaning.specs.declared.world.World.{World}
use Rattle.jn_meaning.specs.declared.heap.Heap.{Heap}
use Rattle.jn_meaning.specs.declared.heap.Slot.{Slot}
use Rattle.jn_meaning.specs.declared.frame.Frame.{Frame}
use Rattle.jn_meaning.specs.declared.did.Did.{Did}
use Rattle.jn_meaning.specs.declared.operators.Made.{Made}
use Rattle.jn_meaning.specs.declared.value.Value.{Value}
use Rattle.jn_meaning.specs.Values.{path_at, value_of, values_of}
use Rattle.jn_meaning.specs.Heaps.{heap_of, slot_of}
use Rattle.jn_meaning.specs.Frames.{frame_of, did_of}
use Rattle.jn_meaning.specs.Asked.{made_did, giving}

-- The act was done in the frame f, which is now g, whatever the arena; the heap is as it was.
abbrev pub Done : World → Table → Heap → acts.Act → Frame → Did → Frame → Type 0
Done w t h x f d g = (m : ℕ) → does.Does w.program.now m x (frame_of t.known.items f) (heap_of t.known.items h) (did_of t.known.items d (frame_of t.known.items g) (heap_of t.known.items h))

-- and here it is now i
abbrev pub Changed : World → Table → acts.Act → Frame → Heap → Did → Frame → Heap → Type 0
Changed w t x f h d g i = (m : ℕ) → does.Does w.program.now m x (frame_of t.known.items f) (heap_of t.known.items h) (did_of t.known.items d (frame_of t.known.items g) (heap_of t.known.items i))

abbrev pub MadeDid : Frame → Made → Did → Frame → Type 0
MadeDid f m d g = (known : List ShownPath) (H : state.Heap) → did_of known d (frame_of known g) H ≡ made_did known (frame_of known f) (values_of known f.vals) H m

-- the field of the object is read
abbrev pub GetsAt : Program → List ShownPath → Heap → ℕ → ClassId → Name → Frame → Did → Frame → Type 0
GetsAt p known h o id field f d g =
    OnOnly (FieldType p (path_at known id) field) missing
    (λ t. OnOnly (IsSlot p (path_at known id) field) missing
    (λ s. OnSome (slot_value (heap_of known h) o s) masked (λ v. on_read p (path_at known id) t v (giving (frame_of known f) (values_of known f.vals) (heap_of known h)))))
    (did_of known d (frame_of known g) (heap_of known h))

-- the value is in the type, by the views of the frame
abbrev pub FitsFrame : Program → List ShownPath → Heap → Frame → Ty → Value → Type 0
FitsFrame p known h f t v = IsIn p (frame_views (frame_of known f)) (heap_of known h) t (value_of known v)

-- the slot s of the object gets the value
abbrev pub put_way : Program → List ShownPath → Heap → ℕ → ClassId → Value → state.Frame → List sem.Value → Ty → AtSlot → Way
put_way p known h o id v F vs t s =
    OnSome (slice_get (heap_of known h).objects o) missing
    (λ x. OnTest (IsIn p (this_viewed (path_at known id)) (heap_of known h) t (value_of known v)) foreign (goes F vs (with_slot (heap_of known h) o x s (value_of known v))))

-- where the frame is F with these operands
abbrev pub PutsIn : Program → List ShownPath → Heap → ℕ → ClassId → Slot → Ty → Value → Did → Heap → Type 0
PutsIn p known h o id s t v d i =
    (F : state.Frame) (vs : List sem.Value) → put_way p known h o id v F vs t (slot_of known s) (did_of known d (record F { vals = vs }) (heap_of known i))

abbrev pub PutsAt : Program → List ShownPath → Heap → ℕ → ClassId → Name → Value → Did → Heap → Type 0
PutsAt p known h o id field v d i = (F : state.Frame) (vs : List sem.Value) →
    OnOnly (FieldType p (path_at known id) field) missing (λ t. OnOnly (IsSlot p (path_at known id) field) missing (put_way p known h o id v F vs t))
    (did_of known d (record F { vals = vs }) (heap_of known i))
