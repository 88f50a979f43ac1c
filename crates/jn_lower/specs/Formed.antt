-- What is asked of what was emitted before it becomes a code, and what the code then is.
use Rattle.std.specs.Prelude.{◌≡◌, ◌≤◌, ◌<◌, ◌+◌, ℕ, List, length, All}
use Rattle.jn_base.specs.declared.tree.Method.{Method}
use Rattle.jn_code.specs.declared.instr.Instr.{Instr}
use Rattle.jn_code.specs.declared.image.Code.{Code}
use Rattle.jn_code.specs.Form.{IsKind, InstrInForm, CodeInForm}
use Rattle.jn_sem.specs.Acts.{path_behind}
use Rattle.jn_lower.specs.declared.emitter.Locals.{Locals}
use Rattle.jn_lower.specs.declared.emitter.Emitter.{Emitter}

-- Each variable has its local, of which so many are parameters; there are as many locals as a code may have, at most
-- three of them scratch ones, and each has a kind.
pub record LocalsFormed (x : Locals) (count above : ℕ) : Type 0 where
  pub scratch : length x.kinds ≡ x.scratch
  pub above_all : length x.kinds ≡ above
  pub within : count ≤ length x.kinds
  pub few : count ≤ 16
  pub spare_few : length x.spare ≤ 3
  pub many : length x.kinds + length x.spare ≤ 255
  pub kinds : All IsKind x.kinds
  pub spare_kinds : All IsKind x.spare

-- each instruction is in form, and their number fits into four bytes
pub record InstrsFormed (xs : List Instr) : Type 0 where
  pub many : length xs < 4294967296
  pub each : All InstrInForm xs

pub record Formed (x : Emitter) (count above : ℕ) : Type 0 where
  pub locals : LocalsFormed x.locals count above
  pub instrs : InstrsFormed x.instrs

-- The code of a body has room for 3,806 operands, is in form, and has at most three locals more than its variables.
pub record IsFormed (m : Method) (code : Code) : Type 0 where
  pub room : 3806 ≤ code.stack
  pub in_form : CodeInForm code
  pub locals : length code.params + length code.locals ≤ path_behind m.body (length code.params) + 3

-- Example: the code of `int m(final A a) { return 1; }` has the locals 3 and 3, both parameters.
