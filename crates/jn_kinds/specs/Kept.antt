-- In a valid image every word is used as what it is.
use Rattle.std.specs.Prelude.{◌≡◌, ◌≢◌, ℕ, map}
use Rattle.jn_steps.specs.Runs.{Next, On, End, after}
use Rattle.jn_code.specs.declared.image.Image.{Image}
use Rattle.jn_code.specs.Machine as plain
use Rattle.jn_kinds.specs.Values.{words, held_word}
use Rattle.jn_kinds.specs.Careful.{Careful, CarefulMachine, instruct, boot}

-- without the kinds
abbrev pub plain_frame : Careful → plain.Frame
plain_frame f = record { code = f.code; place = f.place; vars = words f.vars; vals = words f.vals; keeps = f.keeps }

abbrev pub plain_state : CarefulMachine → plain.Machine
plain_state s = record { frames = map plain_frame s.frames; heap = map held_word s.heap; output = s.output }

abbrev pub plain_next : Next CarefulMachine plain.Halt → Next plain.Machine plain.Halt
plain_next (On s) = On (plain_state s)
plain_next (End o bytes) = End o bytes

abbrev pub IsNotStuck : Next CarefulMachine plain.Halt → Type 0
IsNotStuck (On s) = Unit {0}
IsNotStuck (End o bytes) = o ≢ plain.Stuck

-- With words that carry their kinds the run is the same, step for step, and is never stuck. So no instruction ever
-- has an operand of another kind, no slot is read as another kind than it holds, and no number is taken for a
-- reference.
pub record KindsAreKept (i : Image) (capacity depth n : ℕ) : Type 0 where
  pub same : plain_next (after (instruct i capacity depth) n (boot i)) ≡ after (plain.instruct i capacity depth) n (plain.boot i)
  pub right : IsNotStuck (after (instruct i capacity depth) n (boot i))
