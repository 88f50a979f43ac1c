-- A machine over frames: one is at work, the others wait for the result of the one before them. Its states are those of the
-- meaning of a program too.
use Rattle.std.specs.Prelude.{ℕ, List, [], ◌∷◌, ◌++◌, length, Option, Some, None, nat_lt, if◌then◌else◌}
use Rattle.jn_steps.specs.Runs.{Next, On, End}
use Rattle.jn_steps.specs.Steps.{Step, Goes, Enters, Leaves, Falls, Faults}

-- The frame at work is the first, and the latest of those that wait is the next.
pub record State (F H : Type 0) : Type 0 where
  pub frames : List F
  pub heap : H
  pub output : List ℕ

pub record Rules (F H B V O : Type 0) : Type 0 where
  -- what the frame at work does in a step
  pub act : F → H → Step F H B V O
  -- a frame that waited, with the result that came, or none
  pub given : Option V → F → F
  -- the frame of a body that begins with these arguments, where there is such a body
  pub fresh : B → List V → Option F
  -- how a run ends where the first frame returns, where the frames are too many, and where a thing is missing
  pub done : O
  pub deep : O
  pub stuck : O

abbrev pub return_to : {F H B V O : Type 0} → Rules F H B V O → Option V → List F → H → List ℕ → Next (State F H) O
return_to r v [] h out = End r.done out
return_to r v (f ∷ fs) h out = On (record { frames = r.given v f ∷ fs; heap = h; output = out })

abbrev pub begin : {F H B V O : Type 0} → Rules F H B V O → Option F → List F → H → List ℕ → Next (State F H) O
begin r None fs h out = End r.stuck out
begin r (Some f) fs h out = On (record { frames = f ∷ fs; heap = h; output = out })

-- What becomes of the run by what the frame at work does. The first frame is not counted in the depth.
abbrev pub machine_does : {F H B V O : Type 0} → Rules F H B V O → (depth : ℕ) → Step F H B V O → List F → List ℕ → Next (State F H) O
machine_does r depth (Goes f h bytes) fs out = On (record { frames = f ∷ fs; heap = h; output = out ++ bytes })
machine_does r depth (Enters b args f h) fs out =
    if nat_lt (length fs) depth then begin r (r.fresh b args) (f ∷ fs) h out else End r.deep out
machine_does r depth (Leaves v h) fs out = return_to r v fs h out
machine_does r depth Falls fs out = End r.stuck out
machine_does r depth (Faults o) fs out = End o out

abbrev pub machine_step_of : {F H B V O : Type 0} → Rules F H B V O → (depth : ℕ) → List F → H → List ℕ → Next (State F H) O
machine_step_of r depth [] h out = End r.stuck out
machine_step_of r depth (f ∷ fs) h out = machine_does r depth (r.act f h) fs out

-- one step
abbrev pub machine_step : {F H B V O : Type 0} → Rules F H B V O → (depth : ℕ) → State F H → Next (State F H) O
machine_step r depth s = machine_step_of r depth s.frames s.heap s.output
