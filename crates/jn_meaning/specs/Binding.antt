-- Locals with their values, as the meaning has them.
use Rattle.std.specs.Prelude.{List}
use Rattle.jn_base.specs.declared.tree.Program.{Program}
use Rattle.jn_base.specs.declared.path.Path.{Path as ShownPath}
use Rattle.jn_base.specs.declared.names.Var.{Var}
use Rattle.jn_sem.specs.Does.{binds}
use Rattle.jn_meaning.specs.declared.heap.Heap.{Heap}
use Rattle.jn_meaning.specs.declared.frame.Frame.{Frame}
use Rattle.jn_meaning.specs.declared.did.Did.{Did}
use Rattle.jn_meaning.specs.declared.value.Value.{Value}
use Rattle.jn_meaning.specs.Values.{value_of, values_of}
use Rattle.jn_meaning.specs.Heaps.{heap_of}
use Rattle.jn_meaning.specs.Frames.{frame_of, did_of}

-- the frame f, which has the value no more, gets the variable, and is now g
abbrev pub BindsAs : Program → List ShownPath → Heap → Frame → Var → Value → Did → Frame → Type 0
BindsAs p known h f x v d g = binds p (frame_of known f) (heap_of known h) x (value_of known v) (values_of known f.vals) (did_of known d (frame_of known g) (heap_of known h))
