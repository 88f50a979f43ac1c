-- Values in types, as the runner asks for them.
use Rattle.std.specs.Prelude.{◌≡◌, ℕ, List}
use Rattle.jn_base.specs.declared.types.Atom.{Atom as ShownAtom}
use Rattle.jn_base.specs.declared.types.Masks.{Masks}
use Rattle.jn_base.specs.declared.types.Ty.{Ty}
use Rattle.jn_base.specs.declared.types.Ty.TheVariants as ty
use Rattle.jn_base.specs.declared.path.Path.{Path as ShownPath}
use Rattle.jn_sem.specs.Values.{ValueIn, Reference}
use Rattle.jn_sem.specs.State.{HasValue}
use Rattle.jn_table.specs.declared.class.ClassId.{ClassId}
use Rattle.jn_meaning.specs.declared.world.World.{World}
use Rattle.jn_meaning.specs.declared.heap.Heap.{Heap}
use Rattle.jn_meaning.specs.declared.seen.Seen.{Seen}
use Rattle.jn_meaning.specs.Values.{path_at}
use Rattle.jn_meaning.specs.Heaps.{heap_of}
use Rattle.jn_meaning.specs.Seen.{views_of}

-- null is in it
abbrev pub TakesNull : Ty → Type 0
TakesNull (ty.Class xs m) = Unit {0}
TakesNull ty.Null = Unit {0}
TakesNull ty.Int = ⊥
TakesNull ty.Bool = ⊥
TakesNull ty.Void = ⊥

-- a class type with these masks
abbrev pub OfClass : Ty → Masks → Type 0
OfClass t m = (xs : List ShownAtom) × (t ≡ ty.Class xs m)

-- the reference is in the type, with the names of the masks that the runner has
abbrev pub IsObjectIn : World → List ShownPath → Heap → Seen → Ty → ℕ → ClassId → Type 0
IsObjectIn w known h s t o id =
    ValueIn w.program.now w.masks.now (views_of known s) (HasValue w.program.now (heap_of known h)) t (Reference o (path_at known id))
