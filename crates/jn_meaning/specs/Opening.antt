-- The call of `main`, as the meaning has it.
use Rattle.std.specs.Prelude.{List, [], codes}
use Rattle.jn_base.specs.declared.tree.Program.{Program}
use Rattle.jn_base.specs.declared.path.Path.{Path as ShownPath}
use Rattle.jn_sem.specs.State as state
use Rattle.jn_sem.specs.Asks.{OnOnly}
use Rattle.jn_sem.specs.Does.{IsSpelled, missing, calls}
use Rattle.jn_table.specs.declared.class.ClassId.{ClassId}
use Rattle.jn_meaning.specs.declared.did.Did.{Did}
use Rattle.jn_meaning.specs.declared.value.Value.{Value}
use Rattle.jn_meaning.specs.Values.{path_at, value_of}
use Rattle.jn_meaning.specs.Frames.{did_of}

-- `main` is called on this value at the class, where the frame that waits is F
abbrev pub OpensAt : Program → List ShownPath → Value → ClassId → Did → Type 0
OpensAt p known r id d = (F : state.Frame) (H : state.Heap) →
    OnOnly (IsSpelled p (codes "main")) missing (λ n. calls p (path_at known id) n (value_of known r) [] F H) (did_of known d F H)
