-- What an instruction did, and where it led, as the definition of the machine has it.
use Rattle.std.specs.Prelude.{◌≡◌, ℕ, ◌<◌, List, [], ◌∷◌, ◌++◌, length, map, ℤ, Option, Some, None, slice_get}
use Rattle.jn_steps.specs.Runs.{Next, On, End}
use Rattle.jn_steps.specs.Steps.{Goes, Leaves, Faults}
use Rattle.jn_steps.specs.Numbers.{line_of, number_line, truth_line}
use Rattle.jn_code.specs.declared.instr.Instr.{Instr}
use Rattle.jn_code.specs.declared.instr.Instr.TheVariants as op
use Rattle.jn_code.specs.declared.image.Image.{Image}
use Rattle.jn_code.specs.declared.image.Text.{Text}
use Rattle.jn_code.specs.Machine as code
use Rattle.jn_machine.specs.declared.frame.Frame.{Frame}
use Rattle.jn_machine.specs.declared.did.Line.{Line}
use Rattle.jn_machine.specs.declared.did.Line.TheVariants as line
use Rattle.jn_machine.specs.declared.did.Did.{Did}
use Rattle.jn_machine.specs.declared.did.Did.TheVariants as did
use Rattle.jn_machine.specs.declared.did.Turn.{Turn}
use Rattle.jn_machine.specs.declared.did.Turn.TheVariants as turn
use Rattle.jn_machine.specs.Acts.{frame_of}
use Rattle.jn_machine.specs.Sizes.{Sizes}

abbrev pub text_line : Option Text → List ℕ
text_line None = []
text_line (Some text) = line_of text.bytes

-- the bytes of a line
abbrev pub bytes_of : Image → Line → List ℕ
bytes_of i (line.Number z) = number_line z
bytes_of i (line.Truth b) = truth_line b
bytes_of i (line.Text t) = text_line (slice_get i.texts t)

-- its text is there, where it has one
abbrev pub IsLine : Image → Line → Type 0
IsLine i (line.Number z) = Unit {0}
IsLine i (line.Truth b) = Unit {0}
IsLine i (line.Text t) = t < length i.texts

-- The frame f with the heap h obeyed this instruction of that image with that arena. They are now g and k. A call is still to
-- be made: f and h are as they were.
abbrev pub Does : Image → (capacity : ℕ) → Instr → (f : Frame) (h : List ℤ) → Did → (g : Frame) (k : List ℤ) → Type 0
Does i m x f h did.On g k = code.obey i m x (frame_of f) h ≡ Goes (frame_of g) k []
Does i m x f h (did.Print l) g k = (code.obey i m x (frame_of f) h ≡ Goes (frame_of g) k (bytes_of i l)) × IsLine i l
Does i m x f h (did.Call s) g k = (x ≡ op.Call s) × (g ≡ f) × (k ≡ h)
Does i m x f h (did.CallAt s) g k = (x ≡ op.Callat s) × (g ≡ f) × (k ≡ h)
Does i m x f h (did.Construct s) g k = (x ≡ op.Ctor s) × (g ≡ f) × (k ≡ h)
Does i m x f h (did.Leave v) g k = (code.obey i m x (frame_of f) h ≡ Leaves v h) × (k ≡ h)
Does i m x f h did.Null g k = code.obey i m x (frame_of f) h ≡ Faults code.Null
Does i m x f h did.Zero g k = code.obey i m x (frame_of f) h ≡ Faults code.Zero
Does i m x f h did.Arena g k = code.obey i m x (frame_of f) h ≡ Faults code.Arena

-- The same, whatever the heap, which is as before.
abbrev pub InImage : Image → Instr → Frame → Did → Frame → Type 0
InImage i x f d g = (m : ℕ) (h : List ℤ) → Does i m x f h d g h

-- The same, whatever the image.
abbrev pub Plainly : Instr → Frame → Did → Frame → Type 0
Plainly x f d g = (i : Image) (m : ℕ) (h : List ℤ) → Does i m x f h d g h

-- the frame at work, those that wait, the cells, and what was printed
abbrev pub machine_of : Frame → Sizes → List ℤ → List ℕ → code.Machine
machine_of f s h out = record { frames = frame_of f ∷ map frame_of s.waiting; heap = h; output = out }

-- where a turn leads
abbrev pub next_of : Image → Turn → Frame → Sizes → List ℤ → List ℕ → Next code.Machine code.Halt
next_of i turn.On f s h out = On (machine_of f s h out)
next_of i (turn.Print l) f s h out = On (machine_of f s h (out ++ bytes_of i l))
next_of i turn.Done f s h out = End code.Done out
next_of i turn.Null f s h out = End code.Null out
next_of i turn.Zero f s h out = End code.Zero out
next_of i turn.Arena f s h out = End code.Arena out
next_of i turn.Depth f s h out = End code.Depth out

-- what is to be printed is there
abbrev pub IsTurn : Image → Turn → Type 0
IsTurn i (turn.Print l) = IsLine i l
IsTurn i _ = Unit {0}
