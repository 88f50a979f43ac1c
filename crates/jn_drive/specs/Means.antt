-- From the bytes of a source to how the run of its meaning was told.
use Rattle.std.specs.Prelude.{◌≡◌, ℕ, ◌⊎◌, List, Result, Ok, Err, codes, ⊤}
use Rattle.std.specs.declared.option.Option.{Option}
use Rattle.jn_steps.specs.Laws.{IsPrefix}
use Rattle.jn_base.specs.declared.tree.Program.{Program}
use Rattle.jn_base.specs.Spelling.{IsTextOf}
use Rattle.jn_rules.specs.Verdict.{TreePasses}
use Rattle.jn_io.specs.Causes.{Rose}
use Rattle.jn_io.specs.Told.{Files, Lacks}
use Rattle.jn_sem.specs.declared.outcome.Outcome.{Outcome}
use Rattle.jn_sem.specs.declared.outcome.Outcome.TheVariants as outcome
use Rattle.jn_sem.specs.declared.outcome.Why.{Why}
use Rattle.jn_sem.specs.Run.{Run}
use Rattle.jn_drive.specs.declared.halt.Halt.{Halt}
use Rattle.jn_drive.specs.declared.halt.Halt.TheVariants as halt
use Rattle.jn_drive.specs.declared.status.Status.{Status}
use Rattle.jn_drive.specs.declared.status.Status.TheVariants as statuses
use Rattle.jn_drive.specs.Words.{Job}
use Rattle.jn_drive.specs.Reply.{Reply, TellsMeaning, IsRefusalLine, output_reply, out_of_memory}
use Rattle.jn_drive.specs.Seen.{SinkSeen, IsPut, IsCut, IsDelivered}
use Rattle.jn_drive.specs.Exec.{HasRead}

-- ---- the program

-- The accepted program that the bytes spell; or the line of their refusal, or memory ran out.
abbrev pub Accepts : List ℕ → Result Program Halt → Type 0
Accepts bytes (Ok p) = IsTextOf p bytes × TreePasses p
Accepts bytes (Err (halt.Refused line)) = IsRefusalLine bytes line
Accepts bytes (Err halt.Memory) = ⊤
Accepts bytes (Err _) = ⊥

-- The accepted program of the job's file, or the line of its refusal; or the file couldn't be read, or memory ran out.
abbrev pub Finds : Job → Option Files → Option (List ℕ) → ℕ → ℕ → Result Program Halt → Type 0
Finds job files rest' faults faults' (Ok p) =
    (bytes : List ℕ) × HasRead job files rest' faults faults' bytes × IsTextOf p bytes × TreePasses p
Finds job files rest' faults faults' (Err (halt.Refused line)) =
    (bytes : List ℕ) × HasRead job files rest' faults faults' bytes × IsRefusalLine bytes line
Finds job files rest' faults faults' (Err halt.Unread) = Rose faults faults' ⊎ Lacks files job.file
Finds job files rest' faults faults' (Err halt.Memory) = faults' ≡ faults
Finds job files rest' faults faults' (Err (halt.BadImage line)) = ⊥

-- ---- its run

abbrev pub IsUnstuck : Outcome → Type 0
IsUnstuck o = (why : Why) → o ≡ outcome.Stuck why → ⊥

-- How an outcome was told on `err`.
abbrev pub OutcomeTold : Outcome → SinkSeen → SinkSeen → Status → Type 0
OutcomeTold outcome.Ends err err' s = (s ≡ statuses.Done) × (err' ≡ err)
OutcomeTold outcome.Null err err' s = IsPut statuses.Null (codes "fault: null\n") err err' s
OutcomeTold outcome.Zero err err' s = IsPut statuses.Zero (codes "fault: zero divisor\n") err err' s
OutcomeTold outcome.Arena err err' s = IsPut statuses.Arena (codes "fault: arena full\n") err err' s
OutcomeTold outcome.Depth err err' s = IsPut statuses.Depth (codes "fault: call depth\n") err err' s
OutcomeTold outcome.More err err' s = IsPut statuses.Steps (codes "fault: steps\n") err err' s
OutcomeTold (outcome.Stuck why) err err' s = ⊥

-- The output is a first part of what the run prints.
abbrev pub IsPrintedFirst : Program → (a d n : ℕ) → List ℕ → Type 0
IsPrintedFirst p a d n output = (o : Outcome) (printed : List ℕ) → Run p n a d o printed → IsPrefix output printed

-- A run of the meaning with at most n charges was told: its reply was given whole, or cut off; or `out` failed while the run
-- printed; or memory ran out, behind what had been printed.
pub data MeaningTold (p : Program) (a d n : ℕ) (out out' err err' : SinkSeen) (s : Status) : Type 0 where
  whole : (reply : Reply) → TellsMeaning p a d n reply → IsDelivered reply out out' err err' s
      → MeaningTold p a d n out out' err err' s
  broken : (output : List ℕ) → IsPrintedFirst p a d n output → IsCut (output_reply output) out out' err err' s
      → MeaningTold p a d n out out' err err' s
  no_memory : (output : List ℕ) → IsPrintedFirst p a d n output → IsDelivered (out_of_memory output) out out' err err' s
      → MeaningTold p a d n out out' err err' s
