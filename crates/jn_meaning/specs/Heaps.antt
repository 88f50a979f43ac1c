-- Objects of the runner, as the meaning has them.
use Rattle.std.specs.Prelude.{◌≡◌, ◌<◌, ℕ, List, map, slice_get, Option, Some, None, Bool, true, false}
use Rattle.jn_base.specs.declared.path.Path.{Path as ShownPath}
use Rattle.jn_sem.specs.Slots as sem
use Rattle.jn_sem.specs.State as state
use Rattle.jn_sem.specs.State.{Stored, same_slot, with_slot}
use Rattle.jn_meaning.specs.declared.heap.Slot.{Slot}
use Rattle.jn_meaning.specs.declared.heap.Kept.{Kept}
use Rattle.jn_meaning.specs.declared.heap.Object.{Object}
use Rattle.jn_meaning.specs.declared.heap.Heap.{Heap}
use Rattle.jn_meaning.specs.declared.value.Value.{Value}
use Rattle.jn_meaning.specs.Values.{path_at, value_of}

abbrev pub slot_of : List ShownPath → Slot → sem.Slot
slot_of known s = record { class = path_at known s.class; field = s.field }

abbrev pub stored_of : List ShownPath → Kept → Stored
stored_of known x = record { slot = slot_of known x.slot; value = value_of known x.value }

abbrev pub object_of : List ShownPath → Object → state.Object
object_of known x = record { made = path_at known x.made; stored = map (stored_of known) x.stored.items }

abbrev pub heap_of : List ShownPath → Heap → state.Heap
heap_of known h = record { objects = map (object_of known) h.objects.items; used = h.used }

-- it is for the slot
abbrev pub is_for : List ShownPath → Slot → Kept → Bool
is_for known s x = same_slot (slot_of known x.slot) (slot_of known s)

-- none of the first n is for the slot
abbrev pub NoneBefore : List ShownPath → List Kept → Slot → ℕ → Type 0
NoneBefore known xs s n = (k : ℕ) (x : Kept) → k < n → slice_get xs k ≡ Some x → is_for known s x ≡ false

-- the one at the place i is
pub record KeptAt (known : List ShownPath) (xs : List Kept) (s : Slot) (i : ℕ) : Type 0 where
  pub kept : Kept
  pub at : slice_get xs i ≡ Some kept
  pub same : is_for known s kept ≡ true

-- the place of the first one for the slot, none where there is none
abbrev pub IsFirstFor : List ShownPath → List Kept → Slot → Option ℕ → Type 0
IsFirstFor known xs s None = (k : ℕ) (x : Kept) → slice_get xs k ≡ Some x → is_for known s x ≡ false
IsFirstFor known xs s (Some i) = KeptAt known xs s i × NoneBefore known xs s i

-- the slot of the object got the value
pub record StoredAt (known : List ShownPath) (h i : Heap) (o : ℕ) (s : Slot) (v : Value) : Type 0 where
  pub object : state.Object
  pub at : slice_get (heap_of known h).objects o ≡ Some object
  pub is : heap_of known i ≡ with_slot (heap_of known h) o object (slot_of known s) (value_of known v)

-- it did, or there is no such object
abbrev pub Stores : List ShownPath → Heap → Heap → ℕ → Slot → Value → Bool → Type 0
Stores known h i o s v true = StoredAt known h i o s v
Stores known h i o s v false = slice_get (heap_of known h).objects o ≡ None
