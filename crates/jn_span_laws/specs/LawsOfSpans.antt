-- What holds of parts of a code that have kinds.
use Rattle.std.specs.Prelude.{◌≡◌, ℕ, suc, ◌+◌, List, [], ◌∷◌, length, Bool, true, false, Some, None, slice_get}
use Rattle.jn_code.specs.declared.kind.OperandKind.{OperandKind}
use Rattle.jn_code.specs.declared.kind.OperandKind.TheVariants as kind
use Rattle.jn_code.specs.declared.instr.Instr.{Instr}
use Rattle.jn_code.specs.declared.instr.Instr.TheVariants as ins
use Rattle.jn_code.specs.declared.image.Image.{Image}
use Rattle.jn_code.specs.declared.image.Code.{Code}
use Rattle.jn_code.specs.Kinds.{after_it, target_of, goes_on}
use Rattle.jn_code.specs.Valid.{Notes, Known, own_fault, pass}
use Rattle.jn_agree.specs.Spans.{Spans}
use Rattle.jn_agree.specs.Places.{At, deciding, decided_by}

pub record PartsOf (i : Image) (c : Code) : Type 0 where
  -- one behind the other
  pub joined : (s m t : ℕ) (ks js ls : List OperandKind) → Spans i c s m ks js → Spans i c m t js ls
      → Spans i c s t ks ls
  -- one instruction
  pub single : (s : ℕ) (x : Instr) (ks : List OperandKind) → slice_get c.instrs s ≡ Some x → target_of x ≡ None
      → goes_on x ≡ true → own_fault i c x ks ≡ None → Spans i c s (s + 1) ks (after_it i c x ks)
  -- `&&` and `||`, from the part of the right operand: its jump and its two instructions behind it stand around that
  pub decided : (and : Bool) (s m : ℕ) (ks : List OperandKind) → At c.instrs s (deciding and (m + 1))
      → At c.instrs m (ins.Jump (m + 1 + 1)) → At c.instrs (m + 1) (decided_by and)
      → own_fault i c (deciding and (m + 1)) (kind.Bool ∷ ks) ≡ None
      → own_fault i c (ins.Jump (m + 1 + 1)) (kind.Bool ∷ ks) ≡ None → own_fault i c (decided_by and) ks ≡ None
      → Spans i c (s + 1) m ks (kind.Bool ∷ ks) → Spans i c s (m + 1 + 1) (kind.Bool ∷ ks) (kind.Bool ∷ ks)

abbrev pub PartsJoin : Type 0
PartsJoin = (i : Image) (c : Code) → PartsOf i c

-- the last instruction doesn't go on
abbrev pub IsClosed : Code → Type 0
IsClosed c = (n : ℕ) (x : Instr) → suc n ≡ length c.instrs → slice_get c.instrs n ≡ Some x → goes_on x ≡ false

-- The pass over the code, which finds its first fault, ends and has found none.
abbrev pub Passes : Image → Code → Type 0
Passes i c = (u : Notes) × (pass i c ≡ Known u)

abbrev pub WholePartsPass : Type 0
WholePartsPass =
    (i : Image) (c : Code) (ls : List OperandKind) (x : Instr) (xs : List Instr) → c.instrs ≡ x ∷ xs
    → Spans i c 0 (length c.instrs) [] ls → IsClosed c → Passes i c
