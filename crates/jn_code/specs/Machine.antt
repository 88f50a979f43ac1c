-- What the machine does with an image: one equation for each instruction, and runs of them.
use Rattle.std.specs.Prelude.{ℕ, zero, suc, ◌+◌, ◌*◌, ◌/◌, ◌%◌, List, [], ◌∷◌, ◌++◌, length, replicate, ℤ, pos, negsuc, Bool, true, false, not, Option, Some, None, slice_get, slice_set, nat_lt, nat_le, nat_eq, int_lt, int_le, if◌then◌else◌}
use Rattle.std.specs.Option.{option_map, option_and_then}
use Rattle.std.specs.Ordering.{int_eq}
use Rattle.std.specs.List.{find}
use Rattle.jn_steps.specs.Runs.{Report, Next, run}
use Rattle.jn_steps.specs.Steps.{Step, Goes, Enters, Leaves, Faults, on_some, on_one, on_two, on_args}
use Rattle.jn_steps.specs.Frames.{State, Rules, machine_step}
use Rattle.jn_steps.specs.Numbers.{sum_of, difference_of, product_of, negation_of, quotient_of, remainder_of, line_of, number_line, truth_line}
use Rattle.jn_code.specs.declared.instr.Instr.{Instr}
use Rattle.jn_code.specs.declared.instr.Instr.TheVariants as op
use Rattle.jn_code.specs.declared.image.Image.{Image}
use Rattle.jn_code.specs.declared.image.Text.{Text}
use Rattle.jn_code.specs.declared.image.Shape.{Shape}
use Rattle.jn_code.specs.declared.image.Group.{Group}
use Rattle.jn_code.specs.declared.image.ClassRow.{ClassRow}
use Rattle.jn_code.specs.declared.image.MemberEntry.{MemberEntry}
use Rattle.jn_code.specs.declared.image.MethodEntry.{MethodEntry}
use Rattle.jn_code.specs.declared.image.FieldEntry.{FieldEntry}
use Rattle.jn_code.specs.declared.image.OtherEntry.{OtherEntry}
use Rattle.jn_code.specs.declared.image.Code.{Code}
use Rattle.jn_code.specs.Rows.{numbered}

-- How a run ends. It is stuck where a thing is missing that validity promises; a valid image never is.
pub data Halt : Type 0 where
  Done : Halt
  Null : Halt
  Zero : Halt
  Arena : Halt
  Depth : Halt
  Stuck : Halt

-- A frame: its code, the place of its next instruction, its variables, its operands, the latest first, and whether the
-- result of the call that it waits for is kept.
pub record Frame : Type 0 where
  pub code : ℕ
  pub place : ℕ
  pub vars : List ℤ
  pub vals : List ℤ
  pub keeps : Bool

-- Operands, variables and cells are words. A truth value is 0 or 1, a class is its number.
abbrev pub truth : ℤ → Bool
truth (pos zero) = false
truth (pos (suc n)) = true
truth (negsuc n) = true

abbrev pub word_of : Bool → ℤ
word_of true = pos 1
word_of false = pos 0

abbrev pub class_in : ℤ → ℕ
class_in (pos k) = k
class_in (negsuc k) = 0

-- A reference is the class at which an object is viewed, and the first cell of the object.
pub record Ref : Type 0 where
  pub view : ℕ
  pub cell : ℕ

-- its word is the class times 2^32, plus the cell, plus 1
abbrev pub ref_word : ℕ → ℕ → ℤ
ref_word view cell = pos (suc (view * 4294967296 + cell))

-- the reference that a word stands for, where 0 is null
abbrev pub ref_in : ℤ → Option Ref
ref_in (pos zero) = None
ref_in (pos (suc n)) = Some (record { view = n / 4294967296; cell = n % 4294967296 })
ref_in (negsuc n) = None

-- the low 32 bits of a reference's word tell the object
abbrev pub object_in : ℤ → ℕ
object_in (pos n) = n % 4294967296
object_in (negsuc n) = 0

-- the class above, where there is one
abbrev pub up_of : Image → ℕ → Option ℕ
up_of i k = option_and_then (λ (r : ClassRow). numbered r.up) (slice_get i.classes k)

-- that many times
abbrev pub ups_of : Image → ℕ → ℕ → Option ℕ
ups_of i zero k = Some k
ups_of i (suc n) k = option_and_then (ups_of i n) (up_of i k)

abbrev pub member_in : ClassRow → ℕ → Option ℕ
member_in r name = option_map (λ (e : MemberEntry). e.class) (find (λ (e : MemberEntry). nat_eq e.name name) r.members)

abbrev pub code_in : ClassRow → ℕ → Option ℕ
code_in r s = option_map (λ (e : MethodEntry). e.code) (find (λ (e : MethodEntry). nat_eq e.selector s) r.methods)

abbrev pub slot_in : ClassRow → ℕ → Option ℕ
slot_in r s = option_map (λ (e : FieldEntry). e.slot) (find (λ (e : FieldEntry). nat_eq e.selector s) r.fields)

abbrev pub other_in : ClassRow → ℕ → Option ℕ
other_in r f = option_map (λ (e : OtherEntry). e.class) (find (λ (e : OtherEntry). nat_eq e.family f) r.others)

-- the counterpart of class k in a family: it is its own in its own family
abbrev pub counterpart_of : ℕ → ClassRow → ℕ → Option ℕ
counterpart_of k r family = if nat_eq r.family family then Some k else other_in r family

-- a reference, viewed at its class's counterpart in a family
abbrev pub ref_viewed : Image → ℕ → Ref → Option ℤ
ref_viewed i family r =
    option_and_then (λ (row : ClassRow). option_map (λ k. ref_word k r.cell) (counterpart_of r.view row family)) (slice_get i.classes r.view)

abbrev pub viewed_as : Image → ℕ → ℤ → Option Ref → Option ℤ
viewed_as i family z None = Some z
viewed_as i family z (Some r) = ref_viewed i family r

-- a word viewed in a family: null stays
abbrev pub viewed : Image → ℕ → ℤ → Option ℤ
viewed i family z = viewed_as i family z (ref_in z)

-- what a field of this kind gives: kind 4 is viewed in the receiver's family
abbrev pub field_value : Image → ℕ → ℕ → ℤ → Option ℤ
field_value i kind family z = if nat_eq kind 4 then viewed i family z else Some z

-- a new object: its group's number, and a 0 for each slot
abbrev pub object_cells : ℕ → Group → List ℤ
object_cells number g = pos number ∷ replicate (length g.slots) (pos 0)

-- What a frame does. The heap is the list of used cells.
abbrev pub Did : Type 0
Did = Step Frame (List ℤ) ℕ ℤ Halt

-- goes on to the next instruction with these operands
abbrev pub next : Frame → List ℤ → List ℤ → Did
next f vs h = Goes (record f { place = f.place + 1; vals = vs }) h []

abbrev pub next_printing : Frame → List ℤ → List ℤ → List ℕ → Did
next_printing f vs h bytes = Goes (record f { place = f.place + 1; vals = vs }) h bytes

abbrev pub jump : ℕ → Frame → List ℤ → List ℤ → Did
jump t f vs h = Goes (record f { place = t; vals = vs }) h []

-- waits at the next instruction with these operands, for a result that is kept or dropped
abbrev pub waits : Bool → Frame → List ℤ → Frame
waits keeps f vs = record f { place = f.place + 1; vals = vs; keeps = keeps }

-- null halts
abbrev pub on_ref : ℤ → (Ref → Did) → Did
on_ref z go = on_some Null (ref_in z) go

abbrev pub on_row : Image → ℕ → (ClassRow → Did) → Did
on_row i k go = on_some Stuck (slice_get i.classes k) go

-- the arguments of a method, and the receiver below them
abbrev pub on_call : Image → ℕ → List ℤ → (List ℤ → ℤ → List ℤ → Did) → Did
on_call i s vals go =
    on_some Stuck (slice_get i.methods s) (λ (m : Shape). on_args Stuck (length m.params) [] vals (λ args below. on_one Stuck below (λ z vs. go args z vs)))

-- a new object of class k, where the cells suffice
abbrev pub make : ℕ → ℕ → List ℤ → Frame → List ℤ → List ℤ → Did
make capacity k cells f vs h =
    if nat_le (length h + length cells) capacity then next f (ref_word k (length h) ∷ vs) (h ++ cells) else Faults Arena

-- the constructor's code, where there is one, with the receiver kept below it
abbrev pub construct : Option ℕ → ℤ → List ℤ → Frame → List ℤ → List ℤ → Did
construct None z args f vs h = next f (z ∷ vs) h
construct (Some b) z args f vs h = Enters b (z ∷ args) (waits false f (z ∷ vs)) h

-- The table. `capacity` is the arena's, h the used cells.
abbrev pub obey : Image → (capacity : ℕ) → Instr → Frame → List ℤ → Did
obey i m (op.Int z) f h = next f (z ∷ f.vals) h
obey i m (op.Bool b) f h = next f (pos b ∷ f.vals) h
obey i m op.Null f h = next f (pos 0 ∷ f.vals) h
obey i m (op.Cls k) f h = next f (pos k ∷ f.vals) h
obey i m (op.Load x) f h = on_some Stuck (slice_get f.vars x) (λ z. next f (z ∷ f.vals) h)
obey i m (op.Store x) f h =
    on_one Stuck f.vals (λ z vs. if nat_lt x (length f.vars) then next (record f { vars = slice_set f.vars x z }) vs h else Faults Stuck)
obey i m op.Pop f h = on_one Stuck f.vals (λ z vs. next f vs h)
obey i m op.Add f h = on_two Stuck f.vals (λ x y vs. next f (sum_of x y ∷ vs) h)
obey i m op.Sub f h = on_two Stuck f.vals (λ x y vs. next f (difference_of x y ∷ vs) h)
obey i m op.Mul f h = on_two Stuck f.vals (λ x y vs. next f (product_of x y ∷ vs) h)
obey i m op.Div f h = on_two Stuck f.vals (λ x y vs. on_some Zero (quotient_of x y) (λ z. next f (z ∷ vs) h))
obey i m op.Rem f h = on_two Stuck f.vals (λ x y vs. on_some Zero (remainder_of x y) (λ z. next f (z ∷ vs) h))
obey i m op.Neg f h = on_one Stuck f.vals (λ x vs. next f (negation_of x ∷ vs) h)
obey i m op.Lt f h = on_two Stuck f.vals (λ x y vs. next f (word_of (int_lt x y) ∷ vs) h)
obey i m op.Le f h = on_two Stuck f.vals (λ x y vs. next f (word_of (int_le x y) ∷ vs) h)
obey i m op.Gt f h = on_two Stuck f.vals (λ x y vs. next f (word_of (int_lt y x) ∷ vs) h)
obey i m op.Ge f h = on_two Stuck f.vals (λ x y vs. next f (word_of (int_le y x) ∷ vs) h)
obey i m op.Eqi f h = on_two Stuck f.vals (λ x y vs. next f (word_of (int_eq x y) ∷ vs) h)
obey i m op.Eqb f h = on_two Stuck f.vals (λ x y vs. next f (word_of (int_eq x y) ∷ vs) h)
obey i m op.Eqr f h = on_two Stuck f.vals (λ x y vs. next f (word_of (nat_eq (object_in x) (object_in y)) ∷ vs) h)
obey i m op.Not f h = on_one Stuck f.vals (λ x vs. next f (word_of (not (truth x)) ∷ vs) h)
obey i m (op.Jump t) f h = jump t f f.vals h
obey i m (op.Jfalse t) f h = on_one Stuck f.vals (λ x vs. if truth x then next f vs h else jump t f vs h)
obey i m (op.Jtrue t) f h = on_one Stuck f.vals (λ x vs. if truth x then jump t f vs h else next f vs h)
obey i m op.Viewof f h = on_one Stuck f.vals (λ z vs. on_ref z (λ r. next f (pos r.view ∷ vs) h))
obey i m (op.Up n) f h = on_one Stuck f.vals (λ z vs. on_some Null (ups_of i n (class_in z)) (λ k. next f (pos k ∷ vs) h))
obey i m (op.Down name) f h =
    on_one Stuck f.vals (λ z vs. on_row i (class_in z) (λ row. on_some Null (member_in row name) (λ k. next f (pos k ∷ vs) h)))
obey i m op.New f h =
    on_one Stuck f.vals (λ z vs. on_row i (class_in z) (λ row. on_some Null (numbered row.group) (λ number. on_some Stuck (slice_get i.groups number) (λ g. make m (class_in z) (object_cells number g) f vs h))))
obey i m (op.Ctor s) f h =
    on_one Stuck f.vals (λ z below. on_some Stuck (slice_get i.methods s) (λ (shape : Shape). on_args Stuck (length shape.params) [] below (λ args vs. on_ref z (λ r. on_row i r.view (λ row. construct (code_in row s) z args f vs h)))))
obey i m (op.Call s) f h =
    on_call i s f.vals (λ args z vs. on_ref z (λ r. on_row i r.view (λ row. on_some Null (code_in row s) (λ b. Enters b (z ∷ args) (waits true f vs) h))))
obey i m (op.Callat s) f h =
    on_one Stuck f.vals (λ k below. on_call i s below (λ args z vs. on_ref z (λ r. on_row i (class_in k) (λ row. on_some Null (code_in row s) (λ b. Enters b (z ∷ args) (waits true f vs) h)))))
obey i m (op.Get s) f h =
    on_one Stuck f.vals (λ z vs. on_ref z (λ r. on_row i r.view (λ row. on_some Null (slot_in row s) (λ slot. on_some Stuck (slice_get h (r.cell + 1 + slot)) (λ v. on_some Stuck (slice_get i.fields s) (λ kind. on_some Null (field_value i kind row.family v) (λ w. next f (w ∷ vs) h)))))))
obey i m (op.Put s) f h =
    on_two Stuck f.vals (λ z v vs. on_ref z (λ r. on_row i r.view (λ row. on_some Null (slot_in row s) (λ slot. if nat_lt (r.cell + 1 + slot) (length h) then next f vs (slice_set h (r.cell + 1 + slot) v) else Faults Stuck))))
obey i m op.Conv f h =
    on_two Stuck f.vals (λ z k vs. on_row i (class_in k) (λ row. on_some Null (viewed i row.family z) (λ w. next f (w ∷ vs) h)))
obey i m op.Check f h = on_one Stuck f.vals (λ z vs. on_ref z (λ r. next f (z ∷ vs) h))
obey i m op.Printi f h = on_one Stuck f.vals (λ z vs. next_printing f vs h (number_line z))
obey i m op.Printb f h = on_one Stuck f.vals (λ z vs. next_printing f vs h (truth_line (truth z)))
obey i m (op.Printt t) f h = on_some Stuck (slice_get i.texts t) (λ (text : Text). next_printing f f.vals h (line_of text.bytes))
obey i m op.Ret f h = Leaves None h
obey i m op.Retv f h = on_one Stuck f.vals (λ z vs. Leaves (Some z) h)

-- the frame's next instruction
abbrev pub move : Image → ℕ → Frame → List ℤ → Did
move i m f h =
    on_some Stuck (slice_get i.codes f.code) (λ (c : Code). on_some Stuck (slice_get c.instrs f.place) (λ x. obey i m x f h))

-- what a frame waited for comes on its operands, where it is kept
abbrev pub given_if : Bool → ℤ → Frame → Frame
given_if true z f = record f { vals = z ∷ f.vals }
given_if false z f = f

abbrev pub given : Option ℤ → Frame → Frame
given None f = f
given (Some z) f = given_if f.keeps z f

-- the frame of a code that begins: the arguments are the first of its variables, and the further ones are 0
abbrev pub fresh : ℕ → Code → List ℤ → Frame
fresh b c args = record { code = b; place = 0; vars = args ++ replicate (length c.locals) (pos 0); vals = []; keeps = true }

abbrev pub rules : Image → ℕ → Rules Frame (List ℤ) ℕ ℤ Halt
rules i capacity =
    record { act = move i capacity; given = given; fresh = λ b args. option_map (λ (c : Code). fresh b c args) (slice_get i.codes b); done = Done; deep = Depth; stuck = Stuck }

abbrev pub Machine : Type 0
Machine = State Frame (List ℤ)

-- one instruction
abbrev pub instruct : Image → (capacity depth : ℕ) → Machine → Next Machine Halt
instruct i capacity depth m = machine_step (rules i capacity) depth m

abbrev pub first_frame : Image → Option Code → List Frame
first_frame i None = []
first_frame i (Some c) = fresh i.start c [] ∷ []

-- the start code's frame, with no cell used and nothing printed
abbrev pub boot : Image → Machine
boot i = record { frames = first_frame i (slice_get i.codes i.start); heap = []; output = [] }

-- An image's run of at most n instructions: the halt, where it came, and the output.
abbrev pub mach : Image → (capacity depth n : ℕ) → Report Halt
mach i capacity depth n = run (instruct i capacity depth) (λ (m : Machine). m.output) n (boot i)
