-- How what is emitted is put together.
use Rattle.std.specs.Prelude.{List}
use Rattle.jn_code.specs.declared.instr.Instr.{Instr}
use Rattle.jn_lower.specs.declared.emitter.Emitter.{Emitter}
use Rattle.jn_lower.specs.Placed.{Nothing, Are}
use Rattle.jn_lower.specs.Emitted.{Emitted, Adds}

-- What is added at the end stands there.
abbrev pub AddedStand : Type 0
AddedStand = (xs : List Instr) (old new : Emitter) → Adds xs old new → Emitted (Are xs) old new

abbrev pub NothingStands : Type 0
NothingStands = (old : Emitter) → Emitted Nothing old old
