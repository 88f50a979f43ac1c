-- An instruction in a file: a byte that says which it is, and its operand.
use Rattle.std.specs.Prelude.{ℕ, zero, suc, pos, List, [], ◌∷◌, length, Option, Some, None, Err, slice_get}
use Rattle.std.specs.Int.{w16, w32}
use Rattle.jn_code.specs.declared.instr.Instr.{Instr}
use Rattle.jn_code.specs.declared.instr.Instr.TheVariants as op
use Rattle.jn_code.specs.declared.fault.FieldKind.TheVariants as kind
use Rattle.jn_code.specs.SpellsFields.{Field, Reading, Bad, ◌>>=◌, byte, number, signed, truth, done, last}

-- The instructions in the order of their bytes, from 1 on, each with an operand that says nothing.
abbrev pub instructions : List Instr
instructions =
    op.Int (pos 0) ∷ op.Bool 0 ∷ op.Null ∷ op.Cls 0 ∷ op.Load 0 ∷ op.Store 0 ∷ op.Pop
    ∷ op.Add ∷ op.Sub ∷ op.Mul ∷ op.Div ∷ op.Rem ∷ op.Neg ∷ op.Lt ∷ op.Le ∷ op.Gt ∷ op.Ge
    ∷ op.Eqi ∷ op.Eqb ∷ op.Eqr ∷ op.Not ∷ op.Jump 0 ∷ op.Jfalse 0 ∷ op.Jtrue 0
    ∷ op.Viewof ∷ op.Up 0 ∷ op.Down 0 ∷ op.New ∷ op.Ctor 0 ∷ op.Call 0 ∷ op.Callat 0
    ∷ op.Get 0 ∷ op.Put 0 ∷ op.Conv ∷ op.Check ∷ op.Printi ∷ op.Printb ∷ op.Printt 0 ∷ op.Ret ∷ op.Retv ∷ []

-- The byte of an instruction.
abbrev pub opcode : Instr → ℕ
opcode (op.Int z) = 0x01
opcode (op.Bool b) = 0x02
opcode op.Null = 0x03
opcode (op.Cls n) = 0x04
opcode (op.Load n) = 0x05
opcode (op.Store n) = 0x06
opcode op.Pop = 0x07
opcode op.Add = 0x08
opcode op.Sub = 0x09
opcode op.Mul = 0x0a
opcode op.Div = 0x0b
opcode op.Rem = 0x0c
opcode op.Neg = 0x0d
opcode op.Lt = 0x0e
opcode op.Le = 0x0f
opcode op.Gt = 0x10
opcode op.Ge = 0x11
opcode op.Eqi = 0x12
opcode op.Eqb = 0x13
opcode op.Eqr = 0x14
opcode op.Not = 0x15
opcode (op.Jump n) = 0x16
opcode (op.Jfalse n) = 0x17
opcode (op.Jtrue n) = 0x18
opcode op.Viewof = 0x19
opcode (op.Up n) = 0x1a
opcode (op.Down n) = 0x1b
opcode op.New = 0x1c
opcode (op.Ctor n) = 0x1d
opcode (op.Call n) = 0x1e
opcode (op.Callat n) = 0x1f
opcode (op.Get n) = 0x20
opcode (op.Put n) = 0x21
opcode op.Conv = 0x22
opcode op.Check = 0x23
opcode op.Printi = 0x24
opcode op.Printb = 0x25
opcode (op.Printt n) = 0x26
opcode op.Ret = 0x27
opcode op.Retv = 0x28

-- one operand, and the instruction that it makes
abbrev pub operand : {A : Type 0} → A → Field A → (A → Instr) → Field Instr
operand x field make = last (λ _. x) field make

-- The operand of an instruction, and how one of its name is read behind its byte.
abbrev pub operand_of : Instr → Field Instr
operand_of (op.Int z) = operand z signed op.Int
operand_of (op.Bool b) = operand b truth op.Bool
operand_of (op.Cls n) = operand n (number w16) op.Cls
operand_of (op.Load n) = operand n byte op.Load
operand_of (op.Store n) = operand n byte op.Store
operand_of (op.Jump n) = operand n (number w32) op.Jump
operand_of (op.Jfalse n) = operand n (number w32) op.Jfalse
operand_of (op.Jtrue n) = operand n (number w32) op.Jtrue
operand_of (op.Up n) = operand n byte op.Up
operand_of (op.Down n) = operand n (number w16) op.Down
operand_of (op.Ctor n) = operand n (number w32) op.Ctor
operand_of (op.Call n) = operand n (number w32) op.Call
operand_of (op.Callat n) = operand n (number w32) op.Callat
operand_of (op.Get n) = operand n (number w32) op.Get
operand_of (op.Put n) = operand n (number w32) op.Put
operand_of (op.Printt n) = operand n (number w32) op.Printt
operand_of x = done x

-- the instruction of that byte
abbrev pub instruction_of : ℕ → Option Instr
instruction_of zero = None
instruction_of (suc n) = slice_get instructions n

-- behind the byte; left is the number of bytes from that byte on
abbrev pub read_operand : ℕ → Option Instr → List ℕ → Reading Instr
read_operand left None bytes = Err (Bad left kind.Opcode)
read_operand left (Some x) bytes = (operand_of x).read bytes

unfoldable pub read_instr : List ℕ → Reading Instr
read_instr bytes = byte.read bytes >>= λ c. read_operand (length bytes) (instruction_of c.0) c.1

abbrev pub instr_bytes : Instr → List ℕ
instr_bytes x = opcode x ∷ (operand_of x).spelled x

abbrev pub instr : Field Instr
instr = record { spelled = instr_bytes; read = read_instr }
