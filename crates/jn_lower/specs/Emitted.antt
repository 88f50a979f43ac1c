-- What is emitted behind a code, and what is known of its locals.
use Rattle.std.specs.Prelude.{◌≡◌, ℕ, ◌+◌, ◌≤◌, List, ◌∷◌, [], ◌++◌, length, Some, slice_get, slice_set}
use Rattle.jn_code.specs.declared.instr.Instr.{Instr}
use Rattle.jn_code.specs.declared.image.Code.{Code}
use Rattle.jn_agree.specs.Places.{HasKind}
use Rattle.jn_lower.specs.declared.emitter.Locals.{Locals}
use Rattle.jn_lower.specs.declared.emitter.Emitter.{Emitter}
use Rattle.jn_lower.specs.Placed.{Same}

-- The locals of the code have these kinds: those of the variables from 0 on, and the scratch ones from the first number
-- on that no variable has.
pub record Fits (x : Locals) (c : Code) : Type 0 where
  pub kinds : (q k : ℕ) → slice_get x.kinds q ≡ Some k → HasKind c q k
  pub spare : (j k : ℕ) → slice_get x.spare j ≡ Some k → HasKind c (x.scratch + j) k

-- what was known of the locals is still known
pub record Keeps (old new : Locals) : Type 0 where
  pub kinds : (q k : ℕ) → slice_get old.kinds q ≡ Some k → slice_get new.kinds q ≡ Some k
  pub spare : (j k : ℕ) → slice_get old.spare j ≡ Some k → slice_get new.spare j ≡ Some k
  pub scratch : new.scratch ≡ old.scratch

-- what was emitted is as before, and what was known of the locals
pub record Grown (old new : Emitter) : Type 0 where
  pub longer : length old.instrs ≤ length new.instrs
  pub kept : Same old.instrs new.instrs 0 (length old.instrs)
  pub locals : Keeps old.locals new.locals

-- What was old is as before, and the form stands in each code that has there what is new, and such locals.
pub record Emitted (There : Code → ℕ → ℕ → Type 0) (old new : Emitter) : Type 0 where
  pub grown : Grown old new
  pub there : (c : Code) → Fits new.locals c → Same new.instrs c.instrs (length old.instrs) (length new.instrs)
      → There c (length old.instrs) (length new.instrs)

-- the instructions are added, and what was there before stays
pub record Adds (xs : List Instr) (old new : Emitter) : Type 0 where
  pub instrs : new.instrs ≡ old.instrs ++ xs
  pub locals : new.locals ≡ old.locals

-- the instruction stands at that place, and all else stays
pub record Patched (at : ℕ) (i : Instr) (old new : Emitter) : Type 0 where
  pub instrs : new.instrs ≡ slice_set old.instrs at i
  pub locals : new.locals ≡ old.locals

-- the next local has that kind, and all else stays
pub record Declares (kind : ℕ) (old new : Emitter) : Type 0 where
  pub instrs : new.instrs ≡ old.instrs
  pub kinds : new.locals.kinds ≡ old.locals.kinds ++ kind ∷ []
  pub spare : new.locals.spare ≡ old.locals.spare
  pub scratch : new.locals.scratch ≡ old.locals.scratch

-- the kind has its place in the list: the one that it had, else the next one
pub data Places (kind : ℕ) (old new : List ℕ) : Type 0 where
  had : (j : ℕ) → slice_get old j ≡ Some kind → new ≡ old → Places kind old new
  next : ((j : ℕ) → slice_get old j ≡ Some kind → ⊥) → new ≡ old ++ kind ∷ [] → Places kind old new

pub record HasPlace (kind : ℕ) (old new : List ℕ) (j : ℕ) : Type 0 where
  pub at : slice_get new j ≡ Some kind
  pub places : Places kind old new

-- q is the number of the scratch local of that kind, and all else stays
pub record IsSpare (kind : ℕ) (old new : Emitter) (q : ℕ) : Type 0 where
  pub instrs : new.instrs ≡ old.instrs
  pub kinds : new.locals.kinds ≡ old.locals.kinds
  pub scratch : new.locals.scratch ≡ old.locals.scratch
  pub place : ℕ
  pub has : HasPlace kind old.locals.spare new.locals.spare place
  pub number : q ≡ new.locals.scratch + place

-- Example: behind a code of 3 instructions, INT 7 is emitted where the expression `7` stands: from 3 up to 4.
