-- Runs of the runner, as the meaning has them.
use Rattle.std.specs.Prelude.{◌≡◌, ℕ, List, [], ◌∷◌, ◌++◌, length, map, reverse, Bool, true, false, Option, Some, None, nat_lt}
use Rattle.std.specs.Option.{option_map}
use Rattle.jn_steps.specs.Runs.{On, End}
use Rattle.jn_base.specs.declared.path.Path.{Path as ShownPath}
use Rattle.jn_base.specs.declared.tree.Program.{Program}
use Rattle.jn_base.specs.declared.names.Var.{Var}
use Rattle.jn_sem.specs.declared.outcome.Outcome.{Outcome}
use Rattle.jn_sem.specs.State as state
use Rattle.jn_sem.specs.Asks.{OnIf, It}
use Rattle.jn_sem.specs.Does as does
use Rattle.jn_sem.specs.Run as run
use Rattle.jn_sem.specs.Run.{Running, Then, running, over, settled, resumed, given_first, enters, begins, proceeds, Charge}
use Rattle.jn_meaning.specs.declared.heap.Heap.{Heap}
use Rattle.jn_meaning.specs.declared.frame.Frame.{Frame}
use Rattle.jn_meaning.specs.declared.locals.Locals.{Locals}
use Rattle.jn_meaning.specs.declared.did.Did.{Did}
use Rattle.jn_meaning.specs.declared.did.Called.{Called}
use Rattle.jn_meaning.specs.declared.did.Callee.{Callee}
use Rattle.jn_meaning.specs.declared.did.Ending.{Ending}
use Rattle.jn_meaning.specs.declared.did.Line.{Line}
use Rattle.jn_meaning.specs.declared.settling.Settled.{Settled}
use Rattle.jn_meaning.specs.declared.settling.Settled.TheVariants as settled
use Rattle.jn_meaning.specs.declared.value.Value.{Value}
use Rattle.jn_meaning.specs.Values.{value_of, values_of}
use Rattle.jn_meaning.specs.Heaps.{heap_of}
use Rattle.jn_meaning.specs.Frames.{frame_of, did_of, entry_of, ending_of, bytes_of}

-- ---- frames

-- those that wait, the latest first
abbrev pub waiting_of : List ShownPath → List Frame → List state.Frame
waiting_of known fs = map (frame_of known) (reverse fs)

-- all, the one at work first
abbrev pub frames_of : List ShownPath → Frame → List Frame → List state.Frame
frames_of known f fs = frame_of known f ∷ waiting_of known fs

-- where that leads: on with these frames, or to the end
abbrev pub then_of : Option Ending → List state.Frame → state.Heap → List ℕ → Then
then_of None fs H out = On (running fs H out)
then_of (Some o) fs H out = over (ending_of o) out

-- the latest of those that wait is taken, where there is one
abbrev pub Resumes : Frame → List Frame → List Frame → Bool → Type 0
Resumes g fs gs true = fs ≡ gs ++ g ∷ []
Resumes g fs gs false = fs ≡ []

-- ---- the end of a body

abbrev pub settled_then : Settled → List state.Frame → state.Heap → List ℕ → Then
settled_then settled.Works fs H out = On (running fs H out)
settled_then settled.Again fs H out = run.settled fs H out
settled_then (settled.Over o) fs H out = over (ending_of o) out

abbrev pub SettlesTop : Frame → List Frame → Settled → Frame → List Frame → Type 0
SettlesTop f fs s g gs = (known : List ShownPath) (H : state.Heap) (out : List ℕ) → run.settled (frames_of known f fs) H out ≡ settled_then s (frames_of known g gs) H out

-- the frames f and fs are settled, and are now g and gs
abbrev pub Settles : Frame → List Frame → Option Ending → Frame → List Frame → Type 0
Settles f fs o g gs = (known : List ShownPath) (H : state.Heap) (out : List ℕ) → run.settled (frames_of known f fs) H out ≡ then_of o (frames_of known g gs) H out

-- the frame at work has ended with this result, and those that waited go on
abbrev pub Leaves : List Frame → Option Value → Option Ending → Frame → List Frame → Type 0
Leaves fs v o g gs = (known : List ShownPath) (H : state.Heap) (out : List ℕ) →
    resumed (option_map (value_of known) v) (waiting_of known fs) out (run.settled (given_first (option_map (value_of known) v) (waiting_of known fs)) H out)
    ≡ then_of o (frames_of known g gs) H out

-- ---- a body begins

-- the variables with these values
pub record HasBoth (l : Locals) (xs : List Var) (vs : List Value) : Type 0 where
  pub vars : l.vars.list ≡ xs
  pub values : l.values.items ≡ vs

abbrev pub IsFrameOf : Callee → Value → List Value → Frame → Type 0
IsFrameOf c r args f = (known : List ShownPath) → frame_of known f ≡ run.frame_of (entry_of known c) (value_of known r) (values_of known args)

-- the frame x begins, where f and fs wait
abbrev pub BeginsAs : Program → List ShownPath → Frame → Frame → List Frame → Heap → Option Ending → Frame → List Frame → Type 0
BeginsAs p known x f fs h o g gs = (out : List ℕ) → begins p (frame_of known x) (frames_of known f fs) (heap_of known h) out (then_of o (frames_of known g gs) (heap_of known h) out)

abbrev pub EntersAs : Program → List ShownPath → (depth : ℕ) → Called → Frame → List Frame → Heap → Option Ending → Frame → List Frame → Type 0
EntersAs p known depth c f fs h o g gs = (out : List ℕ) →
    OnIf (nat_lt (length (waiting_of known fs)) depth) (It (over does.Depth out))
    (enters p (entry_of known c.callee) (values_of known c.args.items) (frames_of known f fs) (heap_of known h) out)
    (then_of o (frames_of known g gs) (heap_of known h) out)

-- ---- a charge

abbrev pub put : List ℕ → Option Line → List ℕ
put out None = out
put out (Some l) = out ++ bytes_of l

-- by what the frame at work did the run comes to this
abbrev pub Proceeds : Program → List ShownPath → (depth : ℕ) → Did → Frame → List Frame → Heap → Option Line → Option Ending → Frame → List Frame → Type 0
Proceeds p known depth d f fs h l o g gs = (out : List ℕ) →
    proceeds p depth (did_of known d (frame_of known f) (heap_of known h)) (waiting_of known fs) out (then_of o (frames_of known g gs) (heap_of known h) (put out l))

abbrev pub running_of : List ShownPath → Frame → List Frame → Heap → List ℕ → Running
running_of known f fs h out = running (frames_of known f fs) (heap_of known h) out

-- one charge
abbrev pub Charges : Program → List ShownPath → (arena depth : ℕ) → Frame → List Frame → Heap → Option Line → Option Ending → Frame → List Frame → Heap → Type 0
Charges p known arena depth f fs h l o g gs i = (out : List ℕ) →
    Charge p arena depth (running_of known f fs h out) (then_of o (frames_of known g gs) (heap_of known i) (put out l))

-- ---- the start

-- the frame that starts the program
abbrev pub IsStart : Frame → Type 0
IsStart f = (known : List ShownPath) → frame_of known f ≡ run.start_frame

-- a run is at its start
abbrev pub Starts : Frame → List Frame → Heap → Type 0
Starts f fs h = (known : List ShownPath) → running_of known f fs h [] ≡ run.start

-- how the meaning calls an ending
abbrev pub IsOutcome : Ending → Outcome → Type 0
IsOutcome o r = r ≡ run.outcome_of (Some (ending_of o))
