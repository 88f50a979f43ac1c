-- When an image agrees with a program: within n steps it writes no more than the meaning does and halts as that ends,
-- and within 32 instructions a charge, and 32 more, it writes as much and halts where that ends.
use Rattle.std.specs.Prelude.{◌≡◌, ◌≢◌, ◌≤◌, ℕ, suc, ◌+◌, ◌*◌, List, [], Option, Some, None, slice_get}
use Rattle.jn_steps.specs.Laws.{IsPrefix}
use Rattle.jn_base.specs.declared.tree.Program.{Program}
use Rattle.jn_code.specs.declared.image.Image.{Image}
use Rattle.jn_code.specs.declared.image.Code.{Code}
use Rattle.jn_code.specs.Machine.{Halt, mach, fresh}
use Rattle.jn_code.specs.Machine as machine
use Rattle.jn_sem.specs.declared.outcome.Outcome.{Outcome}
use Rattle.jn_sem.specs.declared.outcome.Outcome.TheVariants as outcome
use Rattle.jn_sem.specs.Run.{Run, start_frame}
use Rattle.jn_agree.specs.Naming.{Naming}
use Rattle.jn_agree.specs.Matches.{World}
use Rattle.jn_agree.specs.Follows.{Knows, Local}

-- Ends is the machine's Done, and the other four have one name on both sides. More and Stuck are no halt.
abbrev pub halt_as : Outcome → Option Halt
halt_as outcome.Ends = Some machine.Done
halt_as outcome.Null = Some machine.Null
halt_as outcome.Zero = Some machine.Zero
halt_as outcome.Arena = Some machine.Arena
halt_as outcome.Depth = Some machine.Depth
halt_as outcome.More = None
halt_as (outcome.Stuck why) = None

-- the ranges of arenas, in cells, and of depths, in frames
pub record InRange (a d : ℕ) : Type 0 where
  pub cells : 1 ≤ a
  pub most_cells : a ≤ 67108864
  pub frames : 1 ≤ d
  pub most_frames : d ≤ 10000

-- the machine has halted as the program ended, and both have put the same
pub record SameEnd (i : Image) (a d n : ℕ) (o : Outcome) (out : List ℕ) : Type 0 where
  pub halt : Halt
  pub ended : halt_as o ≡ Some halt
  pub halted : (mach i a d n).outcome ≡ Some halt
  pub output : (mach i a d n).output ≡ out

-- with an arena of a cells and at most d frames
pub record AgreesAt (i : Image) (p : Program) (a d : ℕ) : Type 0 where
  -- what n instructions wrote is the first part of what n + 1 charges print
  pub wrote : (n : ℕ) (o : Outcome) (out : List ℕ) → Run p (suc n) a d o out → IsPrefix (mach i a d n).output out
  -- where n instructions halt, n + 1 charges end so, with that output
  pub halted : (n : ℕ) (o : Outcome) (out : List ℕ) (q : Halt) → Run p (suc n) a d o out
      → (mach i a d n).outcome ≡ Some q → SameEnd i a d n o out
  -- what b charges print is the first part of what 32 b + 32 instructions wrote
  pub printed : (b : ℕ) (o : Outcome) (out : List ℕ) → Run p b a d o out
      → IsPrefix out (mach i a d (32 * b + 32)).output
  -- where b charges end, 32 b + 32 instructions halt so, with that output
  pub ended : (b : ℕ) (o : Outcome) (out : List ℕ) → Run p b a d o out → o ≢ outcome.More
      → SameEnd i a d (32 * b + 32) o out

-- The image agrees with the program, with each arena and depth in their ranges.
abbrev pub Agrees : Image → Program → Type 0
Agrees i p = (a d : ℕ) → InRange a d → AgreesAt i p a d

-- the meaning is never stuck
abbrev pub NeverStuck : Program → Type 0
NeverStuck p =
    (b a d : ℕ) (out : List ℕ) (o : Outcome) → InRange a d → Run p b a d o out → o ≢ outcome.More → (q : Halt) ×
    (halt_as o ≡ Some q)

abbrev pub empty_world : World
empty_world = record { firsts = []; heap = record { objects = []; used = 0 } }

-- The start code, with no operands and an empty arena, goes with the frame that starts the program.
pub record StartAgrees (p : Program) (i : Image) (n : Naming) (m : ℕ) (K : Knows) : Type 0 where
  pub code : Code
  pub there : slice_get i.codes i.start ≡ Some code
  pub follows : (b : ℕ) → Local p i n m K start_frame b start_frame empty_world (fresh i.start code []) [] 32
