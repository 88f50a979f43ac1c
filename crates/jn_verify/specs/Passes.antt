-- What a pass over a code has come to.
use Rattle.std.specs.Prelude.{ℕ, List, Option, Some, None}
use Rattle.jn_code.specs.declared.kind.OperandKind.{OperandKind}
use Rattle.jn_code.specs.declared.instr.Instr.{Instr}
use Rattle.jn_code.specs.declared.fault.CodeWhy.{CodeWhy}
use Rattle.jn_code.specs.Kinds.{target_of, goes_on}
use Rattle.jn_code.specs.Valid.{Notes, Pass, Known, Found, go_on, give_target, give_next, end_fault}

-- It has found this fault at instruction n, or none, and then this is known.
abbrev pub pass_of : ℕ → Option CodeWhy → Notes → Pass
pass_of n None s = Known s
pass_of n (Some w) s = Found n w

-- Instruction n gives the kinds after it to its target and to the next one.
abbrev pub given_on : ℕ → Instr → List Instr → List OperandKind → Notes → Pass
given_on n x xs ks s = go_on (give_target n (target_of x) ks s) (λ s. go_on (give_next n (goes_on x) ks s) (end_fault n (goes_on x) xs))
