-- No run gets stuck.
use Rattle.std.specs.Prelude.{◌≢◌, ℕ, ◌<◌, Some}
use Rattle.jn_code.specs.declared.image.Image.{Image}
use Rattle.jn_code.specs.Machine.{Stuck, mach}

-- At each arena whose cells a reference can number, each depth and each number of instructions.
abbrev pub NeverStuck : Image → Type 0
NeverStuck i = (capacity depth n : ℕ) → capacity < 4294967296 → (mach i capacity depth n).outcome ≢ Some Stuck
