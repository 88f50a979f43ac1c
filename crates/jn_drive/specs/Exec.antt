-- From the bytes of an image to how its run was told.
use Rattle.std.specs.Prelude.{◌≡◌, ◌≢◌, ℕ, ◌⊎◌, List, drop, Result, Ok, Err, codes, ⊤}
use Rattle.std.specs.declared.option.Option.{Option}
use Rattle.jn_steps.specs.Runs.{Report}
use Rattle.jn_io.specs.Causes.{Rose}
use Rattle.jn_io.specs.Told.{Files, Lacks}
use Rattle.jn_code.specs.declared.fault.ImageFault.{ImageFault}
use Rattle.jn_code.specs.declared.fault.ImageFault.TheVariants as fault
use Rattle.jn_code.specs.Machine as code
use Rattle.jn_machine.specs.Machines.{MachineState}
use Rattle.jn_machine.specs.declared.run.Halt.{Halt as RunHalt}
use Rattle.jn_machine.specs.declared.run.Halt.TheVariants as ends
use Rattle.jn_exec.specs.Images.{valid_image_of, IsMachineFor}
use Rattle.jn_exec.specs.Lines.{fault_line}
use Rattle.jn_drive.specs.declared.halt.Halt.{Halt}
use Rattle.jn_drive.specs.declared.halt.Halt.TheVariants as halt
use Rattle.jn_drive.specs.declared.status.Status.{Status}
use Rattle.jn_drive.specs.declared.status.Status.TheVariants as statuses
use Rattle.jn_drive.specs.Words.{Job}
use Rattle.jn_drive.specs.Reply.{Reply, RunReply}
use Rattle.jn_drive.specs.Reading.{most_read}
use Rattle.jn_drive.specs.Seen.{SinkSeen, IsSource, IsLeft, IsPut, IsDelivered}

-- The line of the fault, or memory ran out.
abbrev pub IsBadImage : ImageFault → Halt → Type 0
IsBadImage f (halt.BadImage line) = (line ≡ fault_line f) × (f ≢ fault.Memory)
IsBadImage f halt.Memory = ⊤
IsBadImage f _ = ⊥

-- The bytes of the file were read without a fault, and no more of them than are read at most.
pub record HasRead (job : Job) (files : Option Files) (rest' : Option (List ℕ)) (faults faults' : ℕ) (bytes : List ℕ) : Type 0 where
  pub source : IsSource files job.file bytes
  pub reads : faults' ≡ faults
  pub left : IsLeft files (drop (most_read job.kind) bytes) rest'

-- The machine for the image that the file's bytes spell, or the line of what is wrong with them; or the file couldn't be
-- read, or memory ran out.
abbrev pub Loads : Job → Option Files → Option (List ℕ) → ℕ → ℕ → Result MachineState Halt → Type 0
Loads job files rest' faults faults' (Ok m) =
    (bytes : List ℕ) × HasRead job files rest' faults faults' bytes × IsMachineFor bytes job.arena job.depth m
Loads job files rest' faults faults' (Err (halt.BadImage line)) =
    (bytes : List ℕ) × HasRead job files rest' faults faults' bytes × ((f : ImageFault) × (valid_image_of bytes ≡ Err f) × (line ≡ fault_line f))
Loads job files rest' faults faults' (Err halt.Unread) = Rose faults faults' ⊎ Lacks files job.file
Loads job files rest' faults faults' (Err halt.Memory) = faults' ≡ faults
Loads job files rest' faults faults' (Err (halt.Refused line)) = ⊥

-- How the end of a run was told on `err`.
abbrev pub EndTold : RunHalt → SinkSeen → SinkSeen → Status → Type 0
EndTold ends.Done err err' s = (s ≡ statuses.Done) × (err' ≡ err)
EndTold ends.Null err err' s = IsPut statuses.Null (codes "fault: null\n") err err' s
EndTold ends.Zero err err' s = IsPut statuses.Zero (codes "fault: zero divisor\n") err err' s
EndTold ends.Arena err err' s = IsPut statuses.Arena (codes "fault: arena full\n") err err' s
EndTold ends.Depth err err' s = IsPut statuses.Depth (codes "fault: call depth\n") err err' s
EndTold ends.Steps err err' s = IsPut statuses.Steps (codes "fault: steps\n") err err' s
EndTold ends.WriteFault err err' s = (s ≡ statuses.WriteFault) × (err' ≡ err)

-- The reply of the run was given whole, or cut off.
abbrev pub Tells : Report code.Halt → (out out' err err' : SinkSeen) → Status → Type 0
Tells r out out' err err' s = (reply : Reply) × RunReply r reply × IsDelivered reply out out' err err' s
