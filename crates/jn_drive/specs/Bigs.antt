-- From a number to how the run of its source was told.
use Rattle.std.specs.Prelude.{◌≡◌, ℕ, ◌⊎◌, suc, List, length, ⊤, Result, Ok, Err}
use Rattle.jn_big.specs.Source.{big_source}
use Rattle.jn_big.specs.Summary.{summary}
use Rattle.jn_steps.specs.Runs.{Report}
use Rattle.jn_code.specs.Machine as code
use Rattle.jn_machine.specs.Machines.{MachineState}
use Rattle.jn_drive.specs.declared.halt.Halt.{Halt}
use Rattle.jn_drive.specs.declared.halt.Halt.TheVariants as halt
use Rattle.jn_drive.specs.declared.status.Status.{Status}
use Rattle.jn_drive.specs.Words.{BigJob}
use Rattle.jn_drive.specs.Reply.{Reply, RunReply, IsRefusalLine, BigReply, summed, memory_reply}
use Rattle.jn_drive.specs.Built.{IsMachineOf}
use Rattle.jn_drive.specs.Seen.{SinkSeen, IsDelivered}

-- The machine for the program of the source, and how many classes it has; or the line of the refusal, or memory ran out.
abbrev pub MakesBig : BigJob → Result (MachineState × ℕ) Halt → Type 0
MakesBig job (Ok (m, classes)) =
    IsMachineOf (big_source job.count) job.arena job.depth m × (classes ≡ length m.image.classes)
MakesBig job (Err (halt.Refused line)) = IsRefusalLine (big_source job.count) line
MakesBig job (Err halt.Memory) = ⊤
MakesBig job (Err _) = ⊥

-- The text is the summary of the output, or memory ran out.
abbrev pub IsSummed : (n classes : ℕ) → List ℕ → Result (List ℕ) Halt → Type 0
IsSummed n classes output (Ok text) = text ≡ summary (suc n) classes output
IsSummed n classes output (Err h) = h ≡ halt.Memory

-- A run was told, summed up, or that memory ran out.
abbrev pub SumTold : Report code.Halt → (n classes : ℕ) → (out out' err err' : SinkSeen) → Status → Type 0
SumTold r n classes out out' err err' s =
    ((run : Reply) × RunReply r run × IsDelivered (summed n classes run) out out' err err' s)
    ⊎ IsDelivered memory_reply out out' err err' s

-- The reply was given whole, or cut off; or memory ran out.
abbrev pub BigTold : BigJob → (out out' err err' : SinkSeen) → Status → Type 0
BigTold job out out' err err' s =
    (reply : Reply) × (BigReply job reply ⊎ (reply ≡ memory_reply)) × IsDelivered reply out out' err err' s
