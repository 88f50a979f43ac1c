-- How a run ends.
use Rattle.std.specs.Prelude.{◌≡◌, ℕ, ◌<◌, List, [], Some, None}
use Rattle.std.specs.declared.option.Option.{Option}
use Rattle.std.specs.Io.KnownBytes.{append_known}
use Rattle.jn_io.specs.Causes.{Rose}
use Rattle.jn_steps.specs.Runs.{Report}
use Rattle.jn_code.specs.declared.image.Image.{Image}
use Rattle.jn_code.specs.Machine as code
use Rattle.jn_machine.specs.declared.frame.Frame.{Frame}
use Rattle.jn_machine.specs.declared.run.Halt.{Halt}
use Rattle.jn_machine.specs.declared.run.Halt.TheVariants as halt
use Rattle.jn_machine.specs.Held.{Held}
use Rattle.jn_machine.specs.Sizes.{Sizes, Sized}
use Rattle.jn_machine.specs.Does.{machine_of}
use Rattle.jn_machine.specs.Calls.{Roomy}
use Rattle.jn_machine.specs.Writes.{Cut}

-- Frames, cells and output are those with which a run begins, and there is room for each code.
pub record IsFresh (i : Image) (f : Frame) (s : Sizes) (h : Held) (output : List ℕ) : Type 0 where
  pub boot : machine_of f s h.words [] ≡ code.boot i
  pub roomy : Roomy i s
  pub sized : Sized s.wide s.high f
  pub empty : output ≡ []
  pub arena : h.limit < 4294967296

-- The run came to this outcome, None where it goes on. The sink took all that it put, and its count of faults is as before.
pub record CameTo (r : Report code.Halt) (outcome : Option code.Halt) (before now : Option (List ℕ)) (faults faults_now : ℕ) : Type 0 where
  pub came : r.outcome ≡ outcome
  pub took : now ≡ append_known before r.output
  pub kept : faults_now ≡ faults

-- Where the sink failed its count rose, and it took a prefix of what the run puts.
pub record Failed (r : Report code.Halt) (before now : Option (List ℕ)) (faults faults_now : ℕ) : Type 0 where
  pub rose : Rose faults faults_now
  pub cut : Cut before now r.output

-- The run ended so, or goes on for want of steps, or the sink failed.
abbrev pub Ended : Report code.Halt → Halt → (before now : Option (List ℕ)) → (faults faults_now : ℕ) → Type 0
Ended r halt.Done s t f g = CameTo r (Some code.Done) s t f g
Ended r halt.Null s t f g = CameTo r (Some code.Null) s t f g
Ended r halt.Zero s t f g = CameTo r (Some code.Zero) s t f g
Ended r halt.Arena s t f g = CameTo r (Some code.Arena) s t f g
Ended r halt.Depth s t f g = CameTo r (Some code.Depth) s t f g
Ended r halt.Steps s t f g = CameTo r None s t f g
Ended r halt.WriteFault s t f g = Failed r s t f g

-- the outcome that a halt of the run itself stands for
abbrev pub IsHalt : Report code.Halt → Halt → Type 0
IsHalt r halt.Done = r.outcome ≡ Some code.Done
IsHalt r halt.Null = r.outcome ≡ Some code.Null
IsHalt r halt.Zero = r.outcome ≡ Some code.Zero
IsHalt r halt.Arena = r.outcome ≡ Some code.Arena
IsHalt r halt.Depth = r.outcome ≡ Some code.Depth
IsHalt r halt.Steps = r.outcome ≡ None
IsHalt r halt.WriteFault = ⊥
