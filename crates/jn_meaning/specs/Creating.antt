-- New objects, as the meaning has them.
use Rattle.std.specs.Prelude.{◌≡◌, ◌↔◌, ◌+◌, ℕ, List, [], ◌∷◌, ◌++◌, length, map, reverse, Contains, Option, Some, None, Bool, true, false, nat_le}
use Rattle.std.specs.List.Sorted.{IsStrictlySortedBy}
use Rattle.jn_steps.specs.Steps.{Enters}
use Rattle.jn_base.specs.declared.tree.Name.{Name}
use Rattle.jn_base.specs.declared.tree.Term.{Term}
use Rattle.jn_base.specs.declared.tree.Program.{Program}
use Rattle.jn_base.specs.declared.path.Path.{Path as ShownPath}
use Rattle.jn_base.specs.Paths.{Path}
use Rattle.jn_base.specs.ClassOrder.{name_cmp}
use Rattle.jn_sem.specs.Acts as acts
use Rattle.jn_sem.specs.Values as sem
use Rattle.jn_sem.specs.Values.{HasField}
use Rattle.jn_sem.specs.State as state
use Rattle.jn_sem.specs.State.{Stored, with_object}
use Rattle.jn_sem.specs.Asks.{It}
use Rattle.jn_sem.specs.Does as does
use Rattle.jn_sem.specs.Does.{Body, IsConstructorBody, IsFresh, AreFresh, IsNewClass, goes, waiting, kept, on_cells, constructs, makes}
use Rattle.jn_table.specs.declared.class.ClassId.{ClassId}
use Rattle.jn_meaning.specs.declared.heap.Heap.{Heap}
use Rattle.jn_meaning.specs.declared.heap.Kept.{Kept}
use Rattle.jn_meaning.specs.declared.frame.Frame.{Frame}
use Rattle.jn_meaning.specs.declared.did.Did.{Did}
use Rattle.jn_meaning.specs.declared.did.Callee.{Callee}
use Rattle.jn_meaning.specs.declared.finding.Found.{Found}
use Rattle.jn_meaning.specs.declared.creating.Fresh.{Fresh}
use Rattle.jn_meaning.specs.declared.value.Value.{Value}
use Rattle.jn_meaning.specs.Values.{path_at, value_of, values_of}
use Rattle.jn_meaning.specs.Heaps.{heap_of, stored_of}
use Rattle.jn_meaning.specs.Frames.{frame_of, did_of, entry_of}
use Rattle.jn_meaning.specs.Tells.{body_in}

-- ---- the values of a new object

-- the names of the fields of V, in their order
pub record AreFieldNames (p : Program) (V : Path) (names : List Name) : Type 0 where
  pub exact : (f : Name) → Contains names f ↔ HasField p V f
  pub in_order : IsStrictlySortedBy (name_cmp p) names

-- what a field of a new object has, none where it has no type or no slot
abbrev pub FreshTold : Program → List ShownPath → ClassId → Name → Option Kept → Type 0
FreshTold p known id f (Some x) = IsFresh p (path_at known id) f (stored_of known x)
FreshTold p known id f None = (x : Stored) → IsFresh p (path_at known id) f x → ⊥

-- it comes last
pub record IsAdded (p : Program) (known : List ShownPath) (id : ClassId) (f : Name) (old new : List Kept) : Type 0 where
  pub kept : Kept
  pub fresh : IsFresh p (path_at known id) f (stored_of known kept)
  pub is : new ≡ old ++ kept ∷ []

-- it was added, or there is none
abbrev pub FreshAdded : Program → List ShownPath → ClassId → Name → List Kept → List Kept → Bool → Type 0
FreshAdded p known id f old new true = IsAdded p known id f old new
FreshAdded p known id f old new false = FreshTold p known id f None

abbrev pub NoneFresh : Program → List ShownPath → ClassId → Type 0
NoneFresh p known id = (xs : List Stored) → AreFresh p (path_at known id) xs → ⊥

abbrev pub AllFresh : Program → List ShownPath → ClassId → List Kept → Type 0
AllFresh p known id xs = AreFresh p (path_at known id) (map (stored_of known) xs)

-- ---- constructors

-- the last name of the path of a number
abbrev pub LastTold : List ShownPath → ClassId → Option Name → Type 0
LastTold known id None = path_at known id ≡ []
LastTold known id (Some C) = (P : Path) × (path_at known id ≡ C ∷ P)

abbrev pub ConstructorTold : Program → List ShownPath → ClassId → Option Found → Type 0
ConstructorTold p known id (Some x) = IsConstructorBody p (path_at known id) (body_in known x)
ConstructorTold p known id None = (b : Body) → IsConstructorBody p (path_at known id) b → ⊥

-- ---- the new object

-- a reference to the object that is made next
abbrev pub new_reference : List ShownPath → Heap → ClassId → sem.Value
new_reference known h id = sem.Reference (length (heap_of known h).objects) (path_at known id)

abbrev pub new_object : List ShownPath → Fresh → state.Object
new_object known x = record { made = path_at known x.id; stored = map (stored_of known) x.stored.items }

abbrev pub with_new : List ShownPath → Heap → Fresh → state.Heap
with_new known h x = with_object (heap_of known h) x.size (new_object known x)

-- the heap got the object
pub record IsMade (known : List ShownPath) (h i : Heap) (capacity : ℕ) (x : Fresh) (v : Value) : Type 0 where
  pub enough : nat_le (h.used + x.size) capacity ≡ true
  pub reference : value_of known v ≡ new_reference known h x.id
  pub heap : heap_of known i ≡ with_new known h x

-- it did, or the arena has too few cells left
abbrev pub MadeIn : List ShownPath → Heap → Heap → ℕ → Fresh → Option Value → Type 0
MadeIn known h i capacity x (Some v) = IsMade known h i capacity x v
MadeIn known h i capacity x None = nat_le (h.used + x.size) capacity ≡ false

-- what becomes of the frame f and the heap h where there is no constructor
abbrev pub MadeAlone : List ShownPath → (capacity : ℕ) → Heap → Fresh → Bool → Frame → Did → Frame → Heap → Type 0
MadeAlone known capacity h x keeps f d g i =
    on_cells capacity (heap_of known h) x.size
    (goes (frame_of known f) (kept keeps (new_reference known h x.id) (values_of known f.vals)) (with_new known h x))
    (did_of known d (frame_of known g) (heap_of known i))

-- and where it is called
abbrev pub MadeCalling : List ShownPath → (capacity : ℕ) → Heap → Fresh → Callee → List Value → Bool → Frame → Did → Frame → Heap → Type 0
MadeCalling known capacity h x callee args keeps f d g i =
    on_cells capacity (heap_of known h) x.size
    (It (Enters (entry_of known callee) (new_reference known h x.id ∷ values_of known args)
    (waiting false (frame_of known f) (kept keeps (new_reference known h x.id) (values_of known f.vals))) (with_new known h x)))
    (did_of known d (frame_of known g) (heap_of known i))

abbrev pub ConstructsAs : Program → List ShownPath → (capacity : ℕ) → Heap → Fresh → List Value → Bool → Frame → Did → Frame → Heap → Type 0
ConstructsAs p known capacity h x args keeps f d g i =
    constructs p capacity (path_at known x.id) (values_of known args) keeps (frame_of known f) (values_of known f.vals) (heap_of known h) x.size
    (map (stored_of known) x.stored.items) (did_of known d (frame_of known g) (heap_of known i))

-- an object of the class V is made
abbrev pub MakesAs : Program → List ShownPath → (capacity : ℕ) → Heap → Path → List Value → Bool → Frame → Did → Frame → Heap → Type 0
MakesAs p known capacity h V args keeps f d g i =
    makes p capacity V (values_of known args) keeps (frame_of known f) (values_of known f.vals) (heap_of known h) (did_of known d (frame_of known g) (heap_of known i))

-- ---- the act

-- the names of the class that `new T` makes, the outermost first, whatever the operands of the frame
abbrev pub NewNamed : Program → List ShownPath → Frame → Term → Option (List Name) → Type 0
NewNamed p known f t (Some names) = (vs : List sem.Value) → IsNewClass p (record (frame_of known f) { vals = vs }) t (reverse names)
NewNamed p known f t None = (vs : List sem.Value) (V : Path) → IsNewClass p (record (frame_of known f) { vals = vs }) t V → ⊥

-- the act was done in the frame f and the heap h, which are now g and i
abbrev pub Acted : Program → List ShownPath → (capacity : ℕ) → acts.Act → Frame → Heap → Did → Frame → Heap → Type 0
Acted p known capacity x f h d g i = does.Does p capacity x (frame_of known f) (heap_of known h) (did_of known d (frame_of known g) (heap_of known i))
