-- The machine once more, with words that carry their kinds. At an operand of another kind than its instruction asks
-- for it is stuck, whatever a check of the code has said. A slot is read as what it holds.
use Rattle.std.specs.Prelude.{ℕ, ◌+◌, List, [], ◌∷◌, ◌++◌, length, map, ℤ, Bool, true, false, not, Option, Some, None, slice_get, slice_set, nat_lt, nat_le, nat_eq, int_lt, int_le, if◌then◌else◌}
use Rattle.std.specs.Option.{option_map}
use Rattle.std.specs.Ordering.{int_eq}
use Rattle.jn_steps.specs.Runs.{Next}
use Rattle.jn_steps.specs.Steps.{Step, Goes, Enters, Leaves, Faults, on_some, on_one, on_two, on_args}
use Rattle.jn_steps.specs.Frames.{State, Rules, machine_step}
use Rattle.jn_steps.specs.Numbers.{sum_of, difference_of, product_of, negation_of, quotient_of, remainder_of, line_of, number_line, truth_line}
use Rattle.jn_code.specs.declared.instr.Instr.{Instr}
use Rattle.jn_code.specs.declared.instr.Instr.TheVariants as op
use Rattle.jn_code.specs.declared.image.Image.{Image}
use Rattle.jn_code.specs.declared.image.Text.{Text}
use Rattle.jn_code.specs.declared.image.Shape.{Shape}
use Rattle.jn_code.specs.declared.image.Group.{Group}
use Rattle.jn_code.specs.declared.image.ClassRow.{ClassRow}
use Rattle.jn_code.specs.declared.image.Code.{Code}
use Rattle.jn_code.specs.Rows.{numbered}
use Rattle.jn_code.specs.Kinds.{kind_of}
use Rattle.jn_code.specs.Machine.{Halt, Done, Null, Zero, Arena, Depth, Stuck, ups_of, member_in, code_in, slot_in, counterpart_of}
use Rattle.jn_kinds.specs.Values.{Value, Number, Truth, NoObject, Object, Class, zero_of, Held, Head, Holds}

pub record Careful : Type 0 where
  pub code : ℕ
  pub place : ℕ
  pub vars : List Value
  pub vals : List Value
  pub keeps : Bool

abbrev pub Heap : Type 0
Heap = List Held

abbrev pub Act : Type 0
Act = Step Careful Heap ℕ Value Halt

abbrev pub next : Careful → List Value → Heap → Act
next f vs h = Goes (record f { place = f.place + 1; vals = vs }) h []

abbrev pub next_printing : Careful → List Value → Heap → List ℕ → Act
next_printing f vs h bytes = Goes (record f { place = f.place + 1; vals = vs }) h bytes

abbrev pub jump : ℕ → Careful → List Value → Heap → Act
jump t f vs h = Goes (record f { place = t; vals = vs }) h []

abbrev pub waits : Bool → Careful → List Value → Careful
waits keeps f vs = record f { place = f.place + 1; vals = vs; keeps = keeps }

-- ---- an operand of a kind

abbrev pub on_number : Value → (ℤ → Act) → Act
on_number (Number z) go = go z
on_number _ go = Faults Stuck

abbrev pub on_truth : Value → (Bool → Act) → Act
on_truth (Truth b) go = go b
on_truth _ go = Faults Stuck

abbrev pub on_class : Value → (ℕ → Act) → Act
on_class (Class k) go = go k
on_class _ go = Faults Stuck

-- a reference, where null halts
abbrev pub on_object : Value → (ℕ → ℕ → Act) → Act
on_object NoObject go = Faults Null
on_object (Object view cell) go = go view cell
on_object _ go = Faults Stuck

-- a reference as the object that it is to, where null is to none
abbrev pub on_reference : Value → (Option ℕ → Act) → Act
on_reference NoObject go = go None
on_reference (Object view cell) go = go (Some cell)
on_reference _ go = Faults Stuck

abbrev pub on_held : Held → (Value → Act) → Act
on_held (Head g) go = Faults Stuck
on_held (Holds v) go = go v

-- what the cell holds, where it is a slot
abbrev pub on_slot : Option Held → (Value → Act) → Act
on_slot o go = on_some Stuck o (λ x. on_held x go)

abbrev pub on_numbers : List Value → (ℤ → ℤ → List Value → Act) → Act
on_numbers vals go = on_two Stuck vals (λ v w vs. on_number v (λ x. on_number w (λ y. go x y vs)))

abbrev pub on_row : Image → ℕ → (ClassRow → Act) → Act
on_row i k go = on_some Stuck (slice_get i.classes k) go

abbrev pub same_truth : Bool → Bool → Bool
same_truth true c = c
same_truth false c = not c

abbrev pub same_object : Option ℕ → Option ℕ → Bool
same_object None None = true
same_object None (Some b) = false
same_object (Some a) None = false
same_object (Some a) (Some b) = nat_eq a b

-- a reference viewed in a family: null stays
abbrev pub on_viewed : Image → ℕ → Value → (Value → Act) → Act
on_viewed i family NoObject go = go NoObject
on_viewed i family (Object view cell) go =
    on_row i view (λ row. on_some Null (counterpart_of view row family) (λ k. go (Object k cell)))
on_viewed i family _ go = Faults Stuck

-- what a field of this kind gives
abbrev pub on_field : Image → ℕ → ℕ → Value → (Value → Act) → Act
on_field i kind family v go = if nat_eq kind 4 then on_viewed i family v go else go v

abbrev pub object_cells : ℕ → Group → Heap
object_cells number g = Head number ∷ map (λ b. Holds (zero_of (kind_of b))) g.slots

abbrev pub on_call : Image → ℕ → List Value → (List Value → Value → List Value → Act) → Act
on_call i s vals go =
    on_some Stuck (slice_get i.methods s) (λ (m : Shape). on_args Stuck (length m.params) [] vals (λ args below. on_one Stuck below (λ v vs. go args v vs)))

abbrev pub make : ℕ → ℕ → Heap → Careful → List Value → Heap → Act
make capacity k cells f vs h =
    if nat_le (length h + length cells) capacity then next f (Object k (length h) ∷ vs) (h ++ cells) else Faults Arena

abbrev pub construct : Option ℕ → Value → List Value → Careful → List Value → Heap → Act
construct None v args f vs h = next f (v ∷ vs) h
construct (Some b) v args f vs h = Enters b (v ∷ args) (waits false f (v ∷ vs)) h

-- The table.
abbrev pub obey : Image → (capacity : ℕ) → Instr → Careful → Heap → Act
obey i m (op.Int z) f h = next f (Number z ∷ f.vals) h
obey i m (op.Bool b) f h = next f (Truth (not (nat_eq b 0)) ∷ f.vals) h
obey i m op.Null f h = next f (NoObject ∷ f.vals) h
obey i m (op.Cls k) f h = next f (Class k ∷ f.vals) h
obey i m (op.Load x) f h = on_some Stuck (slice_get f.vars x) (λ v. next f (v ∷ f.vals) h)
obey i m (op.Store x) f h =
    on_one Stuck f.vals (λ v vs. if nat_lt x (length f.vars) then next (record f { vars = slice_set f.vars x v }) vs h else Faults Stuck)
obey i m op.Pop f h = on_one Stuck f.vals (λ v vs. next f vs h)
obey i m op.Add f h = on_numbers f.vals (λ x y vs. next f (Number (sum_of x y) ∷ vs) h)
obey i m op.Sub f h = on_numbers f.vals (λ x y vs. next f (Number (difference_of x y) ∷ vs) h)
obey i m op.Mul f h = on_numbers f.vals (λ x y vs. next f (Number (product_of x y) ∷ vs) h)
obey i m op.Div f h = on_numbers f.vals (λ x y vs. on_some Zero (quotient_of x y) (λ z. next f (Number z ∷ vs) h))
obey i m op.Rem f h = on_numbers f.vals (λ x y vs. on_some Zero (remainder_of x y) (λ z. next f (Number z ∷ vs) h))
obey i m op.Neg f h = on_one Stuck f.vals (λ v vs. on_number v (λ x. next f (Number (negation_of x) ∷ vs) h))
obey i m op.Lt f h = on_numbers f.vals (λ x y vs. next f (Truth (int_lt x y) ∷ vs) h)
obey i m op.Le f h = on_numbers f.vals (λ x y vs. next f (Truth (int_le x y) ∷ vs) h)
obey i m op.Gt f h = on_numbers f.vals (λ x y vs. next f (Truth (int_lt y x) ∷ vs) h)
obey i m op.Ge f h = on_numbers f.vals (λ x y vs. next f (Truth (int_le y x) ∷ vs) h)
obey i m op.Eqi f h = on_numbers f.vals (λ x y vs. next f (Truth (int_eq x y) ∷ vs) h)
obey i m op.Eqb f h =
    on_two Stuck f.vals (λ v w vs. on_truth v (λ b. on_truth w (λ c. next f (Truth (same_truth b c) ∷ vs) h)))
obey i m op.Eqr f h =
    on_two Stuck f.vals (λ v w vs. on_reference v (λ a. on_reference w (λ b. next f (Truth (same_object a b) ∷ vs) h)))
obey i m op.Not f h = on_one Stuck f.vals (λ v vs. on_truth v (λ b. next f (Truth (not b) ∷ vs) h))
obey i m (op.Jump t) f h = jump t f f.vals h
obey i m (op.Jfalse t) f h = on_one Stuck f.vals (λ v vs. on_truth v (λ b. if b then next f vs h else jump t f vs h))
obey i m (op.Jtrue t) f h = on_one Stuck f.vals (λ v vs. on_truth v (λ b. if b then jump t f vs h else next f vs h))
obey i m op.Viewof f h = on_one Stuck f.vals (λ v vs. on_object v (λ view cell. next f (Class view ∷ vs) h))
obey i m (op.Up n) f h =
    on_one Stuck f.vals (λ v vs. on_class v (λ k. on_some Null (ups_of i n k) (λ u. next f (Class u ∷ vs) h)))
obey i m (op.Down name) f h =
    on_one Stuck f.vals (λ v vs. on_class v (λ k. on_row i k (λ row. on_some Null (member_in row name) (λ u. next f (Class u ∷ vs) h))))
obey i m op.New f h =
    on_one Stuck f.vals (λ v vs. on_class v (λ k. on_row i k (λ row. on_some Null (numbered row.group) (λ number. on_some Stuck (slice_get i.groups number) (λ g. make m k (object_cells number g) f vs h)))))
obey i m (op.Ctor s) f h =
    on_one Stuck f.vals (λ v below. on_some Stuck (slice_get i.methods s) (λ (shape : Shape). on_args Stuck (length shape.params) [] below (λ args vs. on_object v (λ view cell. on_row i view (λ row. construct (code_in row s) v args f vs h)))))
obey i m (op.Call s) f h =
    on_call i s f.vals (λ args v vs. on_object v (λ view cell. on_row i view (λ row. on_some Null (code_in row s) (λ b. Enters b (v ∷ args) (waits true f vs) h))))
obey i m (op.Callat s) f h =
    on_one Stuck f.vals (λ k below. on_call i s below (λ args v vs. on_object v (λ view cell. on_class k (λ k. on_row i k (λ row. on_some Null (code_in row s) (λ b. Enters b (v ∷ args) (waits true f vs) h))))))
obey i m (op.Get s) f h =
    on_one Stuck f.vals (λ v vs. on_object v (λ view cell. on_row i view (λ row. on_some Null (slot_in row s) (λ slot. on_slot (slice_get h (cell + 1 + slot)) (λ u. on_some Stuck (slice_get i.fields s) (λ kind. on_field i kind row.family u (λ w. next f (w ∷ vs) h)))))))
obey i m (op.Put s) f h =
    on_two Stuck f.vals (λ v u vs. on_object v (λ view cell. on_row i view (λ row. on_some Null (slot_in row s) (λ slot. on_slot (slice_get h (cell + 1 + slot)) (λ old. next f vs (slice_set h (cell + 1 + slot) (Holds u)))))))
obey i m op.Conv f h =
    on_two Stuck f.vals (λ v k vs. on_class k (λ k. on_row i k (λ row. on_viewed i row.family v (λ w. next f (w ∷ vs) h))))
obey i m op.Check f h = on_one Stuck f.vals (λ v vs. on_object v (λ view cell. next f (v ∷ vs) h))
obey i m op.Printi f h = on_one Stuck f.vals (λ v vs. on_number v (λ z. next_printing f vs h (number_line z)))
obey i m op.Printb f h = on_one Stuck f.vals (λ v vs. on_truth v (λ b. next_printing f vs h (truth_line b)))
obey i m (op.Printt t) f h = on_some Stuck (slice_get i.texts t) (λ (text : Text). next_printing f f.vals h (line_of text.bytes))
obey i m op.Ret f h = Leaves None h
obey i m op.Retv f h = on_one Stuck f.vals (λ v vs. Leaves (Some v) h)

abbrev pub move : Image → ℕ → Careful → Heap → Act
move i m f h =
    on_some Stuck (slice_get i.codes f.code) (λ (c : Code). on_some Stuck (slice_get c.instrs f.place) (λ x. obey i m x f h))

abbrev pub given_if : Bool → Value → Careful → Careful
given_if true v f = record f { vals = v ∷ f.vals }
given_if false v f = f

abbrev pub given : Option Value → Careful → Careful
given None f = f
given (Some v) f = given_if f.keeps v f

abbrev pub fresh : ℕ → Code → List Value → Careful
fresh b c args =
    record { code = b; place = 0; vars = args ++ map (λ b. zero_of (kind_of b)) c.locals; vals = []; keeps = true }

abbrev pub rules : Image → ℕ → Rules Careful Heap ℕ Value Halt
rules i capacity =
    record { act = move i capacity; given = given; fresh = λ b args. option_map (λ (c : Code). fresh b c args) (slice_get i.codes b); done = Done; deep = Depth; stuck = Stuck }

abbrev pub CarefulMachine : Type 0
CarefulMachine = State Careful Heap

abbrev pub instruct : Image → (capacity depth : ℕ) → CarefulMachine → Next CarefulMachine Halt
instruct i capacity depth s = machine_step (rules i capacity) depth s

abbrev pub first_frame : Image → Option Code → List Careful
first_frame i None = []
first_frame i (Some c) = fresh i.start c [] ∷ []

abbrev pub boot : Image → CarefulMachine
boot i = record { frames = first_frame i (slice_get i.codes i.start); heap = []; output = [] }
