-- What each instruction takes and gives: the kinds of operands, the latest first.
use Rattle.std.specs.Prelude.{ℕ, zero, suc, List, [], ◌∷◌, ◌++◌, map, reverse, length, drop, Bool, true, false, Option, Some, None, slice_get}
use Rattle.std.specs.Option.{option_map, option_and_then}
use Rattle.jn_code.specs.declared.kind.OperandKind.{OperandKind}
use Rattle.jn_code.specs.declared.kind.OperandKind.TheVariants as kind
use Rattle.jn_code.specs.declared.instr.Instr.{Instr}
use Rattle.jn_code.specs.declared.instr.Instr.TheVariants as op
use Rattle.jn_code.specs.declared.image.Image.{Image}
use Rattle.jn_code.specs.declared.image.Shape.{Shape}
use Rattle.jn_code.specs.declared.image.Code.{Code}

-- 1 is a number, 2 a truth value; 3 is a reference, and so is 4 of a field selector
abbrev pub kind_of : ℕ → OperandKind
kind_of zero = kind.Reference
kind_of (suc zero) = kind.Int
kind_of (suc (suc zero)) = kind.Bool
kind_of (suc (suc (suc n))) = kind.Reference

-- 0 is no result
abbrev pub result_kind : ℕ → Option OperandKind
result_kind zero = None
result_kind (suc n) = Some (kind_of (suc n))

-- the parameters, and then the further locals
abbrev pub locals_of : Code → List OperandKind
locals_of c = map kind_of (c.params ++ c.locals)

abbrev pub local_kind : Code → ℕ → Option OperandKind
local_kind c x = slice_get (locals_of c) x

-- the kinds of the arguments, the latest first, of a method selector
abbrev pub argument_kinds : Option Shape → List OperandKind
argument_kinds None = []
argument_kinds (Some s) = reverse (map kind_of s.params)

abbrev pub arguments_of : Image → ℕ → List OperandKind
arguments_of i s = argument_kinds (slice_get i.methods s)

abbrev pub result_of : Image → ℕ → Option OperandKind
result_of i s = option_and_then (λ (h : Shape). result_kind h.result) (slice_get i.methods s)

abbrev pub field_kind : Image → ℕ → Option OperandKind
field_kind i s = option_map kind_of (slice_get i.fields s)

abbrev pub each_some : {A : Type 0} → List A → List (Option A)
each_some [] = []
each_some (a ∷ rest) = Some a ∷ each_some rest

abbrev pub one : {A : Type 0} → A → List A
one a = a ∷ []

abbrev pub two : {A : Type 0} → A → A → List A
two a b = a ∷ (b ∷ [])

-- What the latest operands have to be, the latest first. None is any kind.
abbrev pub takes : Image → Code → Instr → List (Option OperandKind)
takes i c (op.Int z) = []
takes i c (op.Bool b) = []
takes i c op.Null = []
takes i c (op.Cls k) = []
takes i c (op.Load x) = []
takes i c (op.Store x) = one (local_kind c x)
takes i c op.Pop = one None
takes i c op.Add = two (Some kind.Int) (Some kind.Int)
takes i c op.Sub = two (Some kind.Int) (Some kind.Int)
takes i c op.Mul = two (Some kind.Int) (Some kind.Int)
takes i c op.Div = two (Some kind.Int) (Some kind.Int)
takes i c op.Rem = two (Some kind.Int) (Some kind.Int)
takes i c op.Neg = one (Some kind.Int)
takes i c op.Lt = two (Some kind.Int) (Some kind.Int)
takes i c op.Le = two (Some kind.Int) (Some kind.Int)
takes i c op.Gt = two (Some kind.Int) (Some kind.Int)
takes i c op.Ge = two (Some kind.Int) (Some kind.Int)
takes i c op.Eqi = two (Some kind.Int) (Some kind.Int)
takes i c op.Eqb = two (Some kind.Bool) (Some kind.Bool)
takes i c op.Eqr = two (Some kind.Reference) (Some kind.Reference)
takes i c op.Not = one (Some kind.Bool)
takes i c (op.Jump t) = []
takes i c (op.Jfalse t) = one (Some kind.Bool)
takes i c (op.Jtrue t) = one (Some kind.Bool)
takes i c op.Viewof = one (Some kind.Reference)
takes i c (op.Up n) = one (Some kind.Class)
takes i c (op.Down name) = one (Some kind.Class)
takes i c op.New = one (Some kind.Class)
takes i c (op.Ctor s) = Some kind.Reference ∷ each_some (arguments_of i s)
takes i c (op.Call s) = each_some (arguments_of i s ++ one kind.Reference)
takes i c (op.Callat s) = Some kind.Class ∷ each_some (arguments_of i s ++ one kind.Reference)
takes i c (op.Get s) = one (Some kind.Reference)
takes i c (op.Put s) = two (field_kind i s) (Some kind.Reference)
takes i c op.Conv = two (Some kind.Class) (Some kind.Reference)
takes i c op.Check = one (Some kind.Reference)
takes i c op.Printi = one (Some kind.Int)
takes i c op.Printb = one (Some kind.Bool)
takes i c (op.Printt t) = []
takes i c op.Ret = []
takes i c op.Retv = one (result_kind c.result)

-- what it puts in their place
abbrev pub gives : Image → Code → Instr → Option OperandKind
gives i c (op.Int z) = Some kind.Int
gives i c (op.Bool b) = Some kind.Bool
gives i c op.Null = Some kind.Reference
gives i c (op.Cls k) = Some kind.Class
gives i c (op.Load x) = local_kind c x
gives i c (op.Store x) = None
gives i c op.Pop = None
gives i c op.Add = Some kind.Int
gives i c op.Sub = Some kind.Int
gives i c op.Mul = Some kind.Int
gives i c op.Div = Some kind.Int
gives i c op.Rem = Some kind.Int
gives i c op.Neg = Some kind.Int
gives i c op.Lt = Some kind.Bool
gives i c op.Le = Some kind.Bool
gives i c op.Gt = Some kind.Bool
gives i c op.Ge = Some kind.Bool
gives i c op.Eqi = Some kind.Bool
gives i c op.Eqb = Some kind.Bool
gives i c op.Eqr = Some kind.Bool
gives i c op.Not = Some kind.Bool
gives i c (op.Jump t) = None
gives i c (op.Jfalse t) = None
gives i c (op.Jtrue t) = None
gives i c op.Viewof = Some kind.Class
gives i c (op.Up n) = Some kind.Class
gives i c (op.Down name) = Some kind.Class
gives i c op.New = Some kind.Reference
gives i c (op.Ctor s) = Some kind.Reference
gives i c (op.Call s) = result_of i s
gives i c (op.Callat s) = result_of i s
gives i c (op.Get s) = field_kind i s
gives i c (op.Put s) = None
gives i c op.Conv = Some kind.Reference
gives i c op.Check = Some kind.Reference
gives i c op.Printi = None
gives i c op.Printb = None
gives i c (op.Printt t) = None
gives i c op.Ret = None
gives i c op.Retv = None

abbrev pub list_of : {A : Type 0} → Option A → List A
list_of None = []
list_of (Some a) = one a

-- the kinds after it
abbrev pub after_it : Image → Code → Instr → List OperandKind → List OperandKind
after_it i c x ks = list_of (gives i c x) ++ drop (length (takes i c x)) ks

-- the instruction to which it may jump
abbrev pub target_of : Instr → Option ℕ
target_of (op.Jump t) = Some t
target_of (op.Jfalse t) = Some t
target_of (op.Jtrue t) = Some t
target_of _ = None

-- the next instruction may come next
abbrev pub goes_on : Instr → Bool
goes_on (op.Jump t) = false
goes_on op.Ret = false
goes_on op.Retv = false
goes_on _ = true
