-- Where the instructions of a code stand behind another code.
use Rattle.std.specs.Prelude.{◌≡◌, ℕ, ◌+◌, ◌≤◌, ◌<◌, List, length, slice_get}
use Rattle.jn_code.specs.declared.instr.Instr.{Instr}
use Rattle.jn_code.specs.declared.instr.Instr.TheVariants as ins
use Rattle.jn_code.specs.declared.image.Code.{Code}
use Rattle.jn_agree.specs.Places.{At, Run}

-- the same instructions from a place up to another
pub record Same (a b : List Instr) (s t : ℕ) : Type 0 where
  pub by : (k : ℕ) → s ≤ k → k < t → slice_get a k ≡ slice_get b k

-- What was old is as before, and the form stands in each code that has there what is new.
pub record Placed (There : Code → ℕ → ℕ → Type 0) (old new : List Instr) : Type 0 where
  pub longer : length old ≤ length new
  pub kept : Same old new 0 (length old)
  pub there : (c : Code) → Same new c.instrs (length old) (length new) → There c (length old) (length new)

-- nothing
abbrev pub Nothing : Code → ℕ → ℕ → Type 0
Nothing c s t = t ≡ s

-- these instructions
abbrev pub Are : List Instr → Code → ℕ → ℕ → Type 0
Are xs c s t = Run c.instrs xs s t

-- one form, and behind it another
abbrev pub Behind : (A B : Code → ℕ → ℕ → Type 0) → Code → ℕ → ℕ → Type 0
Behind A B c s t = (m : ℕ) × A c s m × B c m t

-- One of two forms. `jump` goes to the other one, which begins behind the jump that ends the first.
abbrev pub Branches : (jump : ℕ → Instr) → (One Other : Code → ℕ → ℕ → Type 0) → Code → ℕ → ℕ → Type 0
Branches jump One Other c s t =
    (o : ℕ) × At c.instrs s (jump (o + 1)) × One c (s + 1) o × At c.instrs o (ins.Jump t) × Other c (o + 1) t

-- A form again and again while another gives true.
abbrev pub Turns : (Asks Body : Code → ℕ → ℕ → Type 0) → Code → ℕ → ℕ → Type 0
Turns Asks Body c s t =
    (m o : ℕ) × Asks c s m × At c.instrs m (ins.Jfalse (o + 1)) × Body c (m + 1) o × At c.instrs o (ins.Jump s)
    × (t ≡ o + 1)

-- Example: behind a code of 3 instructions, emitting JFALSE 6, INT 1, JUMP 7, INT 2 is emitting the branches JFALSE of
-- INT 1 and INT 2: they stand from 3 up to 7.
