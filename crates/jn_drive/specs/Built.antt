-- From the bytes of a source to the machine that runs its program.
use Rattle.std.specs.Prelude.{◌≡◌, ℕ, ◌⊎◌, List, true, None, Some, Result, Ok, Err, ⊤}
use Rattle.std.specs.declared.option.Option.{Option}
use Rattle.jn_base.specs.declared.tree.Program.{Program}
use Rattle.jn_base.specs.declared.refusal.Refusal.{Refusal}
use Rattle.jn_base.specs.Spelling.{IsTextOf, IsTextRefused}
use Rattle.jn_rules.specs.Verdict.{TreePasses, TreeRefuses}
use Rattle.jn_check.specs.declared.world.World.{World}
use Rattle.jn_check.specs.Worlds.{IsWorld}
use Rattle.jn_io.specs.Causes.{Rose}
use Rattle.jn_io.specs.Told.{Files, Lacks}
use Rattle.jn_code.specs.declared.image.Image.{Image}
use Rattle.jn_link.specs.Joined.{IsImageOf}
use Rattle.jn_machine.specs.Machines.{MachineState}
use Rattle.jn_words.specs.Line.{line_of}
use Rattle.jn_drive.specs.declared.halt.Halt.{Halt}
use Rattle.jn_drive.specs.declared.halt.Halt.TheVariants as halt
use Rattle.jn_drive.specs.Words.{Job}
use Rattle.jn_drive.specs.Reply.{IsRefusalLine}
use Rattle.jn_drive.specs.Saved.{IsImageFile}
use Rattle.jn_drive.specs.Exec.{HasRead}

-- The line of the refusal of text or words, or memory ran out.
abbrev pub IsTextHalt : List ℕ → Halt → Type 0
IsTextHalt bytes (halt.Refused line) = (r : Refusal) × IsTextRefused bytes r × (line ≡ line_of None r)
IsTextHalt bytes halt.Memory = ⊤
IsTextHalt bytes _ = ⊥

-- The program that the bytes spell, or why there is none.
abbrev pub Parses : List ℕ → Result Program Halt → Type 0
Parses bytes (Ok p) = IsTextOf p bytes
Parses bytes (Err h) = IsTextHalt bytes h

-- The line of the refusal of the program, or memory ran out.
abbrev pub IsTreeHalt : Program → Halt → Type 0
IsTreeHalt p (halt.Refused line) = (r : Refusal) × TreeRefuses p r × (line ≡ line_of (Some p) r)
IsTreeHalt p halt.Memory = ⊤
IsTreeHalt p _ = ⊥

-- The program passes, and is known by this; or why it doesn't.
abbrev pub Passes : Program → Result World Halt → Type 0
Passes p (Ok w) = TreePasses p × IsWorld p w
Passes p (Err h) = IsTreeHalt p h

-- The bytes are accepted, and this is an image of their program; or the line of their refusal, or memory ran out.
abbrev pub Builds : List ℕ → Result Image Halt → Type 0
Builds bytes (Ok i) = (p : Program) × IsTextOf p bytes × TreePasses p × IsImageOf p i
Builds bytes (Err (halt.Refused line)) = IsRefusalLine bytes line
Builds bytes (Err halt.Memory) = ⊤
Builds bytes (Err _) = ⊥

-- A fresh machine for an image of the accepted program that the bytes spell, with these bounds.
pub record IsMachineOf (bytes : List ℕ) (arena depth : ℕ) (m : MachineState) : Type 0 where
  pub program : Program
  pub text : IsTextOf program bytes
  pub passes : TreePasses program
  pub image : IsImageOf program m.image
  pub arena_is : m.arena ≡ arena
  pub depth_is : m.depth ≡ depth
  pub fresh : m.fresh ≡ true

-- What the bytes of the file come to: something of which P holds, or the line of their refusal; or the file couldn't be
-- read, or memory ran out.
abbrev pub ReadsTo : {T : Type 0} → (List ℕ → T → Type 0) → Job → Option Files → Option (List ℕ) → ℕ → ℕ → Result T Halt
    → Type 0
ReadsTo P job files rest' faults faults' (Ok x) =
    (bytes : List ℕ) × HasRead job files rest' faults faults' bytes × P bytes x
ReadsTo P job files rest' faults faults' (Err (halt.Refused line)) =
    (bytes : List ℕ) × HasRead job files rest' faults faults' bytes × IsRefusalLine bytes line
ReadsTo P job files rest' faults faults' (Err halt.Unread) = Rose faults faults' ⊎ Lacks files job.file
ReadsTo P job files rest' faults faults' (Err halt.Memory) = faults' ≡ faults
ReadsTo P job files rest' faults faults' (Err (halt.BadImage line)) = ⊥

-- the machine for the program of the file's source
abbrev pub Makes : Job → Option Files → Option (List ℕ) → ℕ → ℕ → Result MachineState Halt → Type 0
Makes job files rest' faults faults' result =
    ReadsTo (λ bytes m. IsMachineOf bytes job.arena job.depth m) job files rest' faults faults' result

-- the bytes that spell its image
abbrev pub Writes : Job → Option Files → Option (List ℕ) → ℕ → ℕ → Result (List ℕ) Halt → Type 0
Writes job files rest' faults faults' result = ReadsTo IsImageFile job files rest' faults faults' result
