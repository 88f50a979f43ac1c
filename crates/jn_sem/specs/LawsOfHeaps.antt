-- A run only adds: objects, cells, and values of slots that have none. So the values that are in a type stay in it.
use Rattle.std.specs.Prelude.{◌≡◌, ◌≤◌, ◌↔◌, ℕ, List, length, Some, IsSome, true, cond, slice_get}
use Rattle.jn_steps.specs.Runs.{On, End}
use Rattle.jn_base.specs.declared.tree.Program.{Program}
use Rattle.jn_base.specs.declared.types.Ty.{Ty}
use Rattle.jn_sem.specs.Sets.{Views}
use Rattle.jn_sem.specs.Values.{Value}
use Rattle.jn_sem.specs.Slots.{Slot}
use Rattle.jn_sem.specs.State.{Stored, Object, Heap, same_slot, stored_value, with_stored, with_slot, with_object, IsIn}
use Rattle.jn_sem.specs.Run.{Running, Then, Charge}

-- the object is of the same group, and no slot has lost its value
pub record Grows (x y : Object) : Type 0 where
  pub made : y.made ≡ x.made
  pub values : (s : Slot) → IsSome (stored_value x.stored s) → IsSome (stored_value y.stored s)

-- an object of the heap i for the object x
pub record GrownAt (i : Heap) (o : ℕ) (x : Object) : Type 0 where
  pub object : Object
  pub at : slice_get i.objects o ≡ Some object
  pub grows : Grows x object

-- the heap i goes on from h: each object is there under its number, and no cell is free again
pub record Later (h i : Heap) : Type 0 where
  pub objects : (o : ℕ) (x : Object) → slice_get h.objects o ≡ Some x → GrownAt i o x
  pub used : h.used ≤ i.used

abbrev pub LaterThen : Heap → Then → Type 0
LaterThen h (On s) = Later h s.heap
LaterThen h (End o bytes) = Unit {0}

pub record HeapsOf (p : Program) : Type 0 where
  pub itself : (h : Heap) → Later h h
  pub joined : (h i j : Heap) → Later h i → Later i j → Later h j
  -- a heap with one more object goes on from it, and so does one in which a slot of an object gets a value
  pub object : (h : Heap) (size : ℕ) (x : Object) → Later h (with_object h size x)
  pub slot : (h : Heap) (o : ℕ) (x : Object) (s : Slot) (v : Value) → slice_get h.objects o ≡ Some x → Later h (with_slot h o x s v)
  -- each charge leads on from the heap that it found
  pub charge : (a d : ℕ) (s : Running) (x : Then) → Charge p a d s x → LaterThen s.heap x
  -- a value that is in a type is in it in each later heap
  pub types : (v : Views) (h i : Heap) (t : Ty) (value : Value) → Later h i → IsIn p v h t value → IsIn p v i t value

-- values in their slots
pub record ValuesStored : Type 0 where
  -- slots are the same where they are equal
  pub same : (s t : Slot) → same_slot s t ≡ true ↔ s ≡ t
  -- a slot has the value that it got, and each other one has what it had
  pub stored : (xs : List Stored) (s t : Slot) (v : Value)
      → stored_value (with_stored xs s v) t ≡ cond (same_slot s t) (Some v) (stored_value xs t)
  -- a slot that had a value takes no further place
  pub size : (xs : List Stored) (s : Slot) (v : Value) → IsSome (stored_value xs s) → length (with_stored xs s v) ≡ length xs

pub record HeapLaws : Type 0 where
  pub heaps : (p : Program) → HeapsOf p
  pub values : ValuesStored
