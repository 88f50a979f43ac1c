-- Run: what a program prints and how it ends, with so many charges, this arena and this depth.
use Rattle.std.specs.Prelude.{◌≡◌, ℕ, suc, List, [], ◌∷◌, ◌++◌, length, take, false, not, cond, Option, Some, None, nat_lt}
use Rattle.jn_steps.specs.Runs.{Next, On, End}
use Rattle.jn_steps.specs.Steps.{Goes, Enters, Leaves, Falls, Faults}
use Rattle.jn_steps.specs.Frames.{State}
use Rattle.jn_base.specs.declared.tree.Method.{Method}
use Rattle.jn_base.specs.declared.tree.TypeTerm.{TypeTerm}
use Rattle.jn_base.specs.declared.tree.Program.{Program}
use Rattle.jn_base.specs.Atoms.{Among}
use Rattle.jn_sem.specs.declared.outcome.Outcome.{Outcome}
use Rattle.jn_sem.specs.declared.outcome.Outcome.TheVariants as outcome
use Rattle.jn_sem.specs.declared.outcome.Why.TheVariants as why
use Rattle.jn_sem.specs.Values.{Value, Null}
use Rattle.jn_sem.specs.Acts.{Begin, Open, Todo, todo, stmts_acts}
use Rattle.jn_sem.specs.State.{Heap, Variable, Frame, frame_views, IsIn, with_values, has_null_path}
use Rattle.jn_sem.specs.Does.{Ending, Ends, AtNull, Zero, Arena, Depth, Stuck, Entry, Did, kept, Does}
use Rattle.jn_sem.specs.Asks.{OnTest, OnIf, It}
use Rattle.jn_steps.specs.Reports.{Reports}

-- The list of frames, the one at work first and then the latest of those that wait; the heap; and what was printed.
abbrev pub Running : Type 0
Running = State Frame Heap

abbrev pub running : List Frame → Heap → List ℕ → Running
running fs h out = record { frames = fs; heap = h; output = out }

-- where a charge leads
abbrev pub Then : Type 0
Then = Next Running Ending

abbrev pub over : Ending → List ℕ → Then
over o out = End o out

-- ---- the end of a body is free

-- The frame goes on where it has something to do. Else its body has ended: one without a result lets the frames below go on,
-- one with a result is Stuck.
abbrev pub ended : Option TypeTerm → List ℕ → Then → Then
ended None out below = below
ended (Some t) out below = over (Stuck why.Kind) out

-- A body has ended, with a result or without, and `below` is what the frames below it do then. Where there is no result, and
-- the first of them waits for one that is kept, the run is Stuck instead.
abbrev pub resumed : Option Value → List Frame → List ℕ → Then → Then
resumed (Some v) fs out below = below
resumed None [] out below = below
resumed None (f ∷ fs) out below = cond f.keeps (over (Stuck why.Kind) out) below

abbrev pub settled_at : List Todo → Frame → List Frame → Heap → List ℕ → Then → Then
settled_at (t ∷ k) f fs h out below = On (running (f ∷ fs) h out)
settled_at [] f fs h out below = ended f.method.result out below

-- the run ends where no frame is left
abbrev pub settled : List Frame → Heap → List ℕ → Then
settled [] h out = over Ends out
settled (f ∷ fs) h out = settled_at f.todo f fs h out (resumed None fs out (settled fs h out))

-- the frame that waited has the result among its operands, where it is kept
abbrev pub given : Option Value → Frame → Frame
given None f = f
given (Some v) f = record f { vals = kept f.keeps v f.vals }

abbrev pub given_first : Option Value → List Frame → List Frame
given_first v [] = []
given_first v (f ∷ fs) = given v f ∷ fs

-- ---- a body begins

abbrev pub frame_of : Entry → (this : Value) → List Value → Frame
frame_of e this args = record {
  class = e.class;
  method = e.method;
  this = this;
  vars = with_values e.vars args;
  vals = [];
  todo = stmts_acts (length e.vars) (suc (length e.vars)) e.method.body [];
  keeps = false;
}

-- each variable has a value of its declared type
abbrev pub AreIn : Program → Frame → Heap → Type 0
AreIn p f h = (x : Variable) → Among f.vars x → IsIn p (frame_views f) h x.var.ty x.value

-- Null where a `final` parameter of class type is null; then each argument has to be in its parameter's type.
abbrev pub begins : Program → Frame → List Frame → Heap → List ℕ → Then → Type 0
begins p f fs h out =
    OnIf (not (has_null_path f.vars)) (It (over AtNull out)) (OnTest (AreIn p f h) (It (over (Stuck why.Foreign) out)) (It (settled (f ∷ fs) h out)))

-- the receiver stands first among the arguments
abbrev pub enters : Program → Entry → List Value → List Frame → Heap → List ℕ → Then → Type 0
enters p e [] fs h out = It (over (Stuck why.Missing) out)
enters p e (r ∷ args) fs h out = begins p (frame_of e r args) fs h out

-- ---- one charge

-- What becomes of the run by what the frame at work does. Depth where the frames would exceed the bound; the frame that
-- starts the program isn't counted, so that `main` is the first one.
abbrev pub proceeds : Program → (depth : ℕ) → Did → List Frame → List ℕ → Then → Type 0
proceeds p depth (Goes f h bytes) fs out = It (settled (f ∷ fs) h (out ++ bytes))
proceeds p depth (Enters e args f h) fs out = OnIf (nat_lt (length fs) depth) (It (over Depth out)) (enters p e args (f ∷ fs) h out)
proceeds p depth (Leaves v h) fs out = It (resumed v fs out (settled (given_first v fs) h out))
proceeds p depth Falls fs out = It (over (Stuck why.Missing) out)
proceeds p depth (Faults o) fs out = It (over o out)

-- the frame without its next act, and without the variables of blocks that have ended
abbrev pub acting : Todo → List Todo → Frame → Frame
acting t k f = record f { vars = take t.scope f.vars; todo = k }

pub record Charged (p : Program) (capacity depth : ℕ) (t : Todo) (k : List Todo) (f : Frame) (fs : List Frame) (h : Heap) (out : List ℕ) (x : Then) : Type 0 where
  pub did : Did
  pub does : Does p capacity t.act (acting t k f) h did
  pub proceeds : proceeds p depth did fs out x

-- (a frame with nothing to do is gone once a charge is settled)
abbrev pub charged : Program → (capacity depth : ℕ) → List Todo → Frame → List Frame → Heap → List ℕ → Then → Type 0
charged p capacity depth [] f fs h out = It (settled (f ∷ fs) h out)
charged p capacity depth (t ∷ k) f fs h out = Charged p capacity depth t k f fs h out

abbrev pub frames_charged : Program → (capacity depth : ℕ) → List Frame → Heap → List ℕ → Then → Type 0
frames_charged p capacity depth [] h out = It (over Ends out)
frames_charged p capacity depth (f ∷ fs) h out = charged p capacity depth f.todo f fs h out

-- one charge leads from s to x
abbrev pub Charge : Program → (capacity depth : ℕ) → Running → Then → Type 0
Charge p capacity depth s x = frames_charged p capacity depth s.frames s.heap s.output x

-- ---- runs

abbrev pub no_method : Method
no_method = record { result = None; name = record { name = record { 0 = 0 }; at = record { line = 0; column = 0 } }; params = []; sharing = []; body = [] }

-- A run charges 1 for `new Main()` and 1 for the call of `main`.
abbrev pub start_frame : Frame
start_frame = record {
  class = [];
  method = no_method;
  this = Null;
  vars = [];
  vals = [];
  todo = todo 0 Begin ∷ todo 0 Open ∷ [];
  keeps = false;
}

abbrev pub start : Running
start = running (start_frame ∷ []) (record { objects = []; used = 0 }) []

abbrev pub shown : Running → List ℕ
shown s = s.output

-- More where a further charge is needed
abbrev pub outcome_of : Option Ending → Outcome
outcome_of None = outcome.More
outcome_of (Some Ends) = outcome.Ends
outcome_of (Some AtNull) = outcome.Null
outcome_of (Some Zero) = outcome.Zero
outcome_of (Some Arena) = outcome.Arena
outcome_of (Some Depth) = outcome.Depth
outcome_of (Some (Stuck why)) = outcome.Stuck why

-- Run(p, b, a, d): the outcome and the output of the program with at most b charges, an arena of a cells and at most d frames.
pub record Run (p : Program) (b a d : ℕ) (result : Outcome) (output : List ℕ) : Type 0 where
  pub ending : Option Ending
  pub outcome : result ≡ outcome_of ending
  pub reports : Reports (Charge p a d) shown b (On start) (record { outcome = ending; output = output })

-- Example: `class Main { void main() { print(1); print(2); } }` ends with six charges and has printed 1 and 2; with
-- five it has printed 1, and the outcome is More.
