-- The kinds of operands before each instruction of a part of a code, as the form whose part it is gives them.
use Rattle.std.specs.Prelude.{◌≡◌, ◌<◌, ◌≤◌, ◌⊎◌, ℕ, ◌+◌, List, [], true, false, Some, None, slice_get}
use Rattle.jn_code.specs.declared.kind.OperandKind.{OperandKind}
use Rattle.jn_code.specs.declared.instr.Instr.{Instr}
use Rattle.jn_code.specs.declared.image.Image.{Image}
use Rattle.jn_code.specs.declared.image.Code.{Code}
use Rattle.jn_code.specs.Kinds.{after_it, target_of, goes_on}
use Rattle.jn_code.specs.Valid.{own_fault}

-- an earlier instruction, from some place on, jumps to t
pub record JumpedTo (c : Code) (from n t : ℕ) : Type 0 where
  pub j : ℕ
  pub instr : Instr
  pub low : from ≤ j
  pub earlier : j < n
  pub at : slice_get c.instrs j ≡ Some instr
  pub target : target_of instr ≡ Some t

-- The instruction n has no fault with the kinds before it, and gives those after it to where it leads, all within the
-- part. Where it doesn't go on, there are none before the next one, or an earlier jump leads there.
pub record Fine (i : Image) (c : Code) (K : ℕ → List OperandKind) (from to n : ℕ) (x : Instr) : Type 0 where
  pub own : own_fault i c x (K n) ≡ None
  pub target : (t : ℕ) → target_of x ≡ Some t → (from ≤ t) × (t ≤ to) × (K t ≡ after_it i c x (K n))
  pub next : goes_on x ≡ true → K (n + 1) ≡ after_it i c x (K n)
  pub dead : goes_on x ≡ false → (K (n + 1) ≡ []) ⊎ JumpedTo c from n (n + 1)

-- the part from one place up to another takes the operands from ks to ls
pub record Spans (i : Image) (c : Code) (from to : ℕ) (ks ls : List OperandKind) : Type 0 where
  pub K : ℕ → List OperandKind
  pub first : K from ≡ ks
  pub last : K to ≡ ls
  pub le : from ≤ to
  pub fine : (n : ℕ) (x : Instr) → from ≤ n → n < to → slice_get c.instrs n ≡ Some x → Fine i c K from to n x
