-- Which images are valid, and the first fault of one that is not: rows in order, then codes, and in a code its instructions.
use Rattle.std.specs.Prelude.{◌≡◌, ℕ, ◌+◌, List, [], ◌∷◌, length, replicate, Bool, true, false, not, ◌&&◌, Option, Some, None, slice_get, slice_set, nat_lt, nat_le, nat_eq, is_some, if◌then◌else◌}
use Rattle.jn_code.specs.declared.kind.OperandKind.{OperandKind}
use Rattle.jn_code.specs.declared.instr.Instr.{Instr}
use Rattle.jn_code.specs.declared.instr.Instr.TheVariants as op
use Rattle.jn_code.specs.declared.image.Image.{Image}
use Rattle.jn_code.specs.declared.image.ClassRow.{ClassRow}
use Rattle.jn_code.specs.declared.image.Code.{Code}
use Rattle.jn_code.specs.declared.fault.CodeWhy.{CodeWhy}
use Rattle.jn_code.specs.declared.fault.CodeWhy.TheVariants as why
use Rattle.jn_code.specs.declared.fault.RowWhy.{RowWhy}
use Rattle.jn_code.specs.declared.fault.ImageFault.{ImageFault}
use Rattle.jn_code.specs.declared.fault.ImageFault.TheVariants as fault
use Rattle.jn_code.specs.Kinds.{locals_of, result_kind, takes, after_it, target_of, goes_on}
use Rattle.jn_code.specs.Rows.{unless, kind_eq, row_fault}

-- the text, the selector or the class is there
abbrev pub number_is_there : Image → Instr → Bool
number_is_there i (op.Cls k) = nat_lt k (length i.classes)
number_is_there i (op.Ctor s) = nat_lt s (length i.methods)
number_is_there i (op.Call s) = nat_lt s (length i.methods)
number_is_there i (op.Callat s) = nat_lt s (length i.methods)
number_is_there i (op.Get s) = nat_lt s (length i.fields)
number_is_there i (op.Put s) = nat_lt s (length i.fields)
number_is_there i (op.Printt t) = nat_lt t (length i.texts)
number_is_there i _ = true

abbrev pub local_is_there : Code → Instr → Bool
local_is_there c (op.Load x) = nat_lt x (length (locals_of c))
local_is_there c (op.Store x) = nat_lt x (length (locals_of c))
local_is_there c _ = true

abbrev pub is_place : Code → Option ℕ → Bool
is_place c None = true
is_place c (Some t) = nat_lt t (length c.instrs)

-- a return is that of the code's result
abbrev pub returns_well : Code → Instr → Bool
returns_well c op.Ret = not (is_some (result_kind c.result))
returns_well c op.Retv = is_some (result_kind c.result)
returns_well c _ = true

-- what an operand has to be, where None is anything
abbrev pub suits : Option OperandKind → OperandKind → Bool
suits None k = true
suits (Some w) k = kind_eq w k

-- the latest operands suit, one by one
abbrev pub all_suit : List (Option OperandKind) → List OperandKind → Bool
all_suit [] ks = true
all_suit (w ∷ ws) [] = false
all_suit (w ∷ ws) (k ∷ ks) = suits w k && all_suit ws ks

-- the first fault of the instruction itself, where the kinds before it are these
abbrev pub own_fault : Image → Code → Instr → List OperandKind → Option CodeWhy
own_fault i c x ks =
    unless (number_is_there i x) why.Number
    (unless (local_is_there c x) why.Local
    (unless (is_place c (target_of x)) why.Target
    (unless (nat_le (length (takes i c x)) (length ks)) why.Stack
    (unless (nat_le (length (after_it i c x ks)) c.stack) why.Stack
    (unless (all_suit (takes i c x) ks) why.Kind
    (unless (returns_well c x) why.Kind
    None))))))

-- The kinds before each instruction, where they are known.
abbrev pub Notes : Type 0
Notes = List (Option (List OperandKind))

-- A pass over a code goes on with what is known, or has found a fault.
pub data Pass : Type 0 where
  Known : Notes → Pass
  Found : (place : ℕ) → CodeWhy → Pass

abbrev pub go_on : Pass → (Notes → Pass) → Pass
go_on (Known s) go = go s
go_on (Found n w) go = Found n w

-- none, where nothing has given kinds to the instruction
abbrev pub or_none : Option (Option (List OperandKind)) → List OperandKind
or_none None = []
or_none (Some None) = []
or_none (Some (Some ks)) = ks

-- the kinds before instruction n
abbrev pub before : Notes → ℕ → List OperandKind
before s n = or_none (slice_get s n)

abbrev pub kinds_eq : List OperandKind → List OperandKind → Bool
kinds_eq [] [] = true
kinds_eq [] (k ∷ ks) = false
kinds_eq (j ∷ js) [] = false
kinds_eq (j ∷ js) (k ∷ ks) = kind_eq j k && kinds_eq js ks

-- Instruction n gives these kinds to the one at t, by what is known there.
abbrev pub give_to : ℕ → ℕ → List OperandKind → Notes → Option (Option (List OperandKind)) → Pass
give_to n t ks s None = Known s
give_to n t ks s (Some None) = Known (slice_set s t (Some ks))
give_to n t ks s (Some (Some old)) = if kinds_eq old ks then Known s else Found n why.Join

abbrev pub give : ℕ → ℕ → List OperandKind → Notes → Pass
give n t ks s = give_to n t ks s (slice_get s t)

-- from now on the kinds before instruction n are known
abbrev pub settle_as : ℕ → Notes → Option (Option (List OperandKind)) → Notes
settle_as n s None = s
settle_as n s (Some None) = slice_set s n (Some [])
settle_as n s (Some (Some ks)) = s

abbrev pub settle : ℕ → Notes → Notes
settle n s = settle_as n s (slice_get s n)

abbrev pub give_target : ℕ → Option ℕ → List OperandKind → Notes → Pass
give_target n None ks s = Known s
give_target n (Some t) ks s = give n t ks s

abbrev pub give_next : ℕ → Bool → List OperandKind → Notes → Pass
give_next n false ks s = Known s
give_next n true ks s = give n (n + 1) ks s

-- the last instruction may not go on
abbrev pub end_fault : ℕ → Bool → List Instr → Notes → Pass
end_fault n true [] s = Found n why.End
end_fault n true (x ∷ xs) s = Known s
end_fault n false xs s = Known s

-- instruction n with the kinds before it, where it has this fault of its own, or none
abbrev pub judge : Image → Code → ℕ → Instr → List Instr → List OperandKind → Option CodeWhy → Notes → Pass
judge i c n x xs ks (Some w) s = Found n w
judge i c n x xs ks None s =
    go_on (give_target n (target_of x) (after_it i c x ks) s) (λ s. go_on (give_next n (goes_on x) (after_it i c x ks) s) (end_fault n (goes_on x) xs))

-- instruction n, before the instructions xs
abbrev pub pass_at : Image → Code → ℕ → Instr → List Instr → Notes → Pass
pass_at i c n x xs s =
    judge i c n x xs (before s n) (own_fault i c x (before s n)) (settle n s)

-- the instructions from n on
abbrev pub pass_from : Image → Code → ℕ → List Instr → Notes → Pass
pass_from i c n [] s = Known s
pass_from i c n (x ∷ xs) s = go_on (pass_at i c n x xs s) (pass_from i c (n + 1) xs)

-- an empty code has no instruction that is its last
abbrev pub pass_all : Image → Code → List Instr → Pass
pass_all i c [] = Found 0 why.End
pass_all i c (x ∷ xs) = pass_from i c 0 (x ∷ xs) (replicate (length (x ∷ xs)) None)

-- one pass over a code: at first nothing is known
abbrev pub pass : Image → Code → Pass
pass i c = pass_all i c c.instrs

-- a run begins with a code that is there and has no parameters and no result
abbrev pub starts_well : Option Code → Bool
starts_well None = false
starts_well (Some c) = nat_eq (length c.params) 0 && not (is_some (result_kind c.result))

abbrev pub start_fault : Image → Option ImageFault
start_fault i =
    if starts_well (slice_get i.codes i.start) then None else Some (fault.BadCode i.start 0 why.Start)

abbrev pub code_fault : Pass → ℕ → Option ImageFault → Option ImageFault
code_fault (Known s) k later = later
code_fault (Found n w) k later = Some (fault.BadCode k n w)

-- the first fault of the codes from number k on, and then that of the start
abbrev pub codes_fault : Image → ℕ → List Code → Option ImageFault
codes_fault i k [] = start_fault i
codes_fault i k (c ∷ cs) = code_fault (pass i c) k (codes_fault i (k + 1) cs)

abbrev pub bad_row : ℕ → Option RowWhy → Option ImageFault → Option ImageFault
bad_row k None later = later
bad_row k (Some w) later = Some (fault.BadRow k w)

-- the first fault of the classes from number k on, and then that of the codes
abbrev pub rows_fault : Image → ℕ → List ClassRow → Option ImageFault
rows_fault i k [] = codes_fault i 0 i.codes
rows_fault i k (r ∷ rs) = bad_row k (row_fault i k r) (rows_fault i (k + 1) rs)

abbrev pub first_fault : Image → Option ImageFault
first_fault i = rows_fault i 0 i.classes

-- An image is valid where nothing is wrong with it.
pub record IsValid (i : Image) : Type 0 where
  pub none : first_fault i ≡ None
