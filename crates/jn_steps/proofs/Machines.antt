-- The output of a machine over frames grows.
use Rattle.std.proofs.Common.{ℕ, List, [], ◌∷◌, length, refl}
use Rattle.std.specs.Prelude.{Option, Some, None, Bool, true, false, nat_lt, if◌then◌else◌}
use Rattle.jn_steps.specs.Runs.{Next}
use Rattle.jn_steps.specs.Laws.{KeepsOutput, OutputGrows, RunsGoOn}
use Rattle.jn_steps.specs.Steps.{Step, Goes, Enters, Leaves, Falls, Faults}
use Rattle.jn_steps.specs.Frames.{State, Rules, return_to, begin, machine_does, machine_step_of, machine_step}
use Rattle.jn_steps.proofs.Runs.{prefix_refl, go_on}

module _ {F H B V O : Type 0} (r : Rules F H B V O) (d : ℕ) where
  abbrev shown : State F H → List ℕ
  shown s = s.output

  abbrev Keeps : List ℕ → Next (State F H) O → Type 0
  Keeps = KeepsOutput shown

  keeps_returned : (v : Option V) (fs : List F) (h : H) (out : List ℕ) → Keeps out (return_to r v fs h out)
  keeps_returned v [] h out = prefix_refl out
  keeps_returned v (f ∷ fs) h out = prefix_refl out

  keeps_begun : (f : Option F) (fs : List F) (h : H) (out : List ℕ) → Keeps out (begin r f fs h out)
  keeps_begun None fs h out = prefix_refl out
  keeps_begun (Some f) fs h out = prefix_refl out

  keeps_if : (b : Bool) (out : List ℕ) (x y : Next (State F H) O) → Keeps out x → Keeps out y → Keeps out (if b then x else y)
  keeps_if true out x y p q = p
  keeps_if false out x y p q = q

  keeps_done : (s : Step F H B V O) (fs : List F) (out : List ℕ) → Keeps out (machine_does r d s fs out)
  keeps_done (Goes f h bytes) fs out = (bytes, refl)
  keeps_done (Enters b args f h) fs out =
      keeps_if (nat_lt (length fs) d) out _ _ (keeps_begun (r.fresh b args) (f ∷ fs) h out) (prefix_refl out)
  keeps_done (Leaves v h) fs out = keeps_returned v fs h out
  keeps_done Falls fs out = prefix_refl out
  keeps_done (Faults o) fs out = prefix_refl out

  keeps_step : (fs : List F) (h : H) (out : List ℕ) → Keeps out (machine_step_of r d fs h out)
  keeps_step [] h out = prefix_refl out
  keeps_step (f ∷ fs) h out = keeps_done (r.act f h) fs out

  pub machine_grows : OutputGrows (machine_step r d) shown
  machine_grows s = keeps_step s.frames s.heap s.output

  pub machine_goes_on : RunsGoOn (machine_step r d) shown
  machine_goes_on = go_on (machine_step r d) shown machine_grows
