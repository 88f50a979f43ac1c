-- Runs of small codes with words that carry their kinds.
use Rattle.std.specs.Prelude.{ℕ, List, [], ◌∷◌}
use Rattle.jn_steps.specs.Runs.{Next, after}
use Rattle.jn_code.specs.declared.instr.Instr.{Instr}
use Rattle.jn_code.specs.declared.image.Image.{Image}
use Rattle.jn_code.specs.Machine.{Halt}
use Rattle.jn_code.specs.Example.{world}
use Rattle.jn_kinds.specs.Careful.{CarefulMachine, instruct, boot}

-- where 100 instructions lead, with 9 cells and a depth of 2
abbrev pub run_of : Image → Next CarefulMachine Halt
run_of i = after (instruct i 9 2) 100 (boot i)

abbrev pub ends : List Instr → Next CarefulMachine Halt
ends xs = run_of (world xs)

-- where the slots of an object are of these kinds
abbrev pub ends_with_slots : List ℕ → List Instr → Next CarefulMachine Halt
ends_with_slots kinds xs = run_of (record (world xs) { groups = record { slots = kinds } ∷ [] })
