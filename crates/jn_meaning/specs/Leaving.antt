-- Results, as the meaning has them.
use Rattle.std.specs.Prelude.{◌≡◌, List, map, Some}
use Rattle.jn_steps.specs.Steps.{Leaves}
use Rattle.jn_base.specs.declared.tree.TypeTerm.{TypeTerm}
use Rattle.jn_base.specs.declared.tree.Program.{Program}
use Rattle.jn_base.specs.declared.path.Path.{Path as ShownPath}
use Rattle.jn_base.specs.declared.names.Var.{Var}
use Rattle.jn_base.specs.declared.types.Ty.{Ty}
use Rattle.jn_base.specs.declared.types.Ty.TheVariants as ty
use Rattle.jn_sem.specs.State as state
use Rattle.jn_sem.specs.Asks.{It}
use Rattle.jn_sem.specs.Does.{returns, on_typed}
use Rattle.jn_meaning.specs.declared.heap.Heap.{Heap}
use Rattle.jn_meaning.specs.declared.frame.Frame.{Frame}
use Rattle.jn_meaning.specs.declared.locals.Locals.{Locals}
use Rattle.jn_meaning.specs.declared.did.Did.{Did}
use Rattle.jn_meaning.specs.declared.value.Value.{Value}
use Rattle.jn_meaning.specs.Values.{value_of}
use Rattle.jn_meaning.specs.Heaps.{heap_of}
use Rattle.jn_meaning.specs.Frames.{frame_of, did_of}

abbrev pub untyped : Var → Var
untyped x = record x { ty = ty.Null }

-- the same variables with the same values, without their types
pub record AreUntyped (old new : Locals) : Type 0 where
  pub vars : new.vars.list ≡ map untyped old.vars.list
  pub values : new.values.items ≡ old.values.items

-- the value is left where it is in the type, in a frame that has these variables
abbrev pub LeavesAs : Program → List ShownPath → Heap → Value → Locals → Ty → Value → Did → Type 0
LeavesAs p known h this all t v d = (f : Frame) (F : state.Frame) → f.this ≡ this → AreUntyped f.locals all
    → on_typed p (frame_of known f) (heap_of known h) t (value_of known v) (It (Leaves (Some (value_of known v)) (heap_of known h))) (did_of known d F (heap_of known h))

-- the frame f returns the value, where its method has a result of this type
abbrev pub ReturnsAs : Program → List ShownPath → Heap → Frame → TypeTerm → Value → Did → Type 0
ReturnsAs p known h f t v d = (F : state.Frame) → returns p (frame_of known f) (heap_of known h) (Some t) (value_of known v) (did_of known d F (heap_of known h))
