-- Calls, as the meaning has them.
use Rattle.std.specs.Prelude.{◌≡◌, List, ◌∷◌}
use Rattle.jn_base.specs.declared.tree.Name.{Name}
use Rattle.jn_base.specs.declared.tree.Program.{Program}
use Rattle.jn_base.specs.declared.path.Path.{Path as ShownPath}
use Rattle.jn_base.specs.Paths.{Path}
use Rattle.jn_sem.specs.State as state
use Rattle.jn_sem.specs.Does.{calls, on_object}
use Rattle.jn_table.specs.declared.class.ClassId.{ClassId}
use Rattle.jn_meaning.specs.declared.did.Did.{Did}
use Rattle.jn_meaning.specs.declared.value.Value.{Value}
use Rattle.jn_meaning.specs.Values.{path_at, value_of, values_of}
use Rattle.jn_meaning.specs.Frames.{did_of}

-- The body of m at the path B is called with these values, the receiver first, where the frame that waits is F.
abbrev pub CallsAt : Program → List ShownPath → Path → Name → List Value → Did → Type 0
CallsAt p known B m all d = (r : Value) (args : List Value) (F : state.Frame) (H : state.Heap) → all ≡ r ∷ args
    → calls p B m (value_of known r) (values_of known args) F H (did_of known d F H)

-- and at the class of a number
abbrev pub CallsTold : Program → List ShownPath → ClassId → Name → List Value → Did → Type 0
CallsTold p known id m all d = CallsAt p known (path_at known id) m all d

-- The receiver stands first among these values, and m is called on it with the others.
abbrev pub CallsOn : Program → List ShownPath → Name → List Value → Did → Type 0
CallsOn p known m all d = (r : Value) (args : List Value) (F : state.Frame) (H : state.Heap) → all ≡ r ∷ args
    → on_object (value_of known r) (λ o V. calls p V m (value_of known r) (values_of known args) F H) (did_of known d F H)
