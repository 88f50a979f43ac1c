use Rattle.std.proofs.Common.{rules, arith, refl, ◌≡◌, ◌≤◌, ◌∷◌, [], ap, sym, ◌∙◌, subst, length, ℤ, true, Some, None, slice_get, get_or, map, to_z, of_z, w64}
use Rattle.std.specs.Option.{option_map}
use Rattle.jn_steps.specs.Runs.{Next}
use Rattle.jn_steps.specs.Steps.{Enters}
use Rattle.jn_steps.specs.Frames.{machine_does}
use Rattle.jn_code.specs.declared.image.Shape.{Shape}
use Rattle.jn_code.specs.declared.image.ClassRow.{ClassRow}
use Rattle.jn_code.specs.Machine.{Halt, Machine, ref_in, code_in, rules as machine_rules, waits}
use Rattle.jn_machine.specs.Acts.{frame_of}
use Rattle.jn_machine.specs.Sizes.{taken, drop_args, under}
use Rattle.jn_machine.specs.Views.{ref_of}
use Rattle.jn_machine.proofs.Objects.{read_at, number_at}
use Rattle.jn_machine.proofs.Turns
use Rattle.jn_machine.proofs.call.call.Goals as goal

pub returns-in-None-clause-turns : goal.returns-in-None-clause-turns
returns-in-None-clause-turns c =
    let i = c.args.image.now in
    let f = frame_of c.args.now.now in
    let s = c.args.s in
    let vals = c.args.now.now.vals.words in
    let shape : Shape = get_or c.as_slice.result.now s c.index-as_slice-s.result in
    let is : slice_get i.methods s ≡ Some shape = number_at i.methods _ s _ c.as_slice.ensures c.requires.args.selector in
    let n = c.len-args.result in
    let l : n ≡ length shape.params = c.len-args.ensures in
    let below = c.requires.args.many shape is in
    let many : n ≤ length vals = omega arith in
    let z = c.peek-z.result in
    let at = c.peek-z.ensures in
    let q : to_z w64 (of_z w64 z) ≡ z = search rules in
    let e : ref_in z ≡ None = ap ref_in (sym q) ∙ sym c.reference_in.ensures ∙ ap (option_map ref_of) c.in-None.is in
    λ m h out. Turns.leads i m c.args.frames.now.limit _ _ _ out _ (Turns.call_null i m s shape f h n is l z at many e) refl

pub bounds-as_slice-r : goal.bounds-as_slice-r
bounds-as_slice-r c =
    let i = c.args.image.now in
    let f = frame_of c.args.now.now in
    let s = c.args.s in
    let vals = c.args.now.now.vals.words in
    let shape : Shape = get_or c.as_slice.result.now s c.index-as_slice-s.result in
    let is : slice_get i.methods s ≡ Some shape = number_at i.methods _ s _ c.as_slice.ensures c.requires.args.selector in
    let n = c.len-args.result in
    let l : n ≡ length shape.params = c.len-args.ensures in
    let below = c.requires.args.many shape is in
    let many : n ≤ length vals = omega arith in
    let z = c.peek-z.result in
    let at = c.peek-z.ensures in
    let q : to_z w64 (of_z w64 z) ≡ z = search rules in
    let r = ref_of c.in-Some.r in
    let e : ref_in z ≡ Some r = ap ref_in (sym q) ∙ sym c.reference_in.ensures ∙ ap (option_map ref_of) c.in-Some.is in
    let view = (c.requires.receiver.view shape z is (ap (slice_get vals) (sym l) ∙ at)).class r e in
    let k : length c.as_slice-2.result.now ≡ length i.classes = ap length c.as_slice-2.ensures in
    omega arith

pub begin-requires-clause-code : goal.begin-requires-clause-code
begin-requires-clause-code c =
    let i = c.args.image.now in
    let f = frame_of c.args.now.now in
    let s = c.args.s in
    let vals = c.args.now.now.vals.words in
    let shape : Shape = get_or c.as_slice.result.now s c.index-as_slice-s.result in
    let is : slice_get i.methods s ≡ Some shape = number_at i.methods _ s _ c.as_slice.ensures c.requires.args.selector in
    let n = c.len-args.result in
    let l : n ≡ length shape.params = c.len-args.ensures in
    let below = c.requires.args.many shape is in
    let many : n ≤ length vals = omega arith in
    let z = c.peek-z.result in
    let at = c.peek-z.ensures in
    let q : to_z w64 (of_z w64 z) ≡ z = search rules in
    let r = ref_of c.in-Some.r in
    let e : ref_in z ≡ Some r = ap ref_in (sym q) ∙ sym c.reference_in.ensures ∙ ap (option_map ref_of) c.in-Some.is in
    let view = (c.requires.receiver.view shape z is (ap (slice_get vals) (sym l) ∙ at)).class r e in
    let row : ClassRow = c.index-as_slice-r.result in
    let row_is : slice_get i.classes r.view ≡ Some row = read_at i.classes _ r.view row c.as_slice-2.ensures view c.index-as_slice-r.is in
    let b = c.in-Some-code_of.b in
    let d : code_in row s ≡ Some b = sym c.code_of.ensures ∙ c.in-Some-code_of.is in
    let entry = Turns.entry_is i r.view s b row c.requires.sound row_is d in
    λ code k. let a = Turns.entry_fits i c.args.frames.now s b shape c.requires.roomy is entry code k in omega arith

pub begin-requires-clause-there : goal.begin-requires-clause-there
begin-requires-clause-there c =
    let i = c.args.image.now in
    let f = frame_of c.args.now.now in
    let s = c.args.s in
    let vals = c.args.now.now.vals.words in
    let shape : Shape = get_or c.as_slice.result.now s c.index-as_slice-s.result in
    let is : slice_get i.methods s ≡ Some shape = number_at i.methods _ s _ c.as_slice.ensures c.requires.args.selector in
    let n = c.len-args.result in
    let l : n ≡ length shape.params = c.len-args.ensures in
    let below = c.requires.args.many shape is in
    let many : n ≤ length vals = omega arith in
    let z = c.peek-z.result in
    let at = c.peek-z.ensures in
    let q : to_z w64 (of_z w64 z) ≡ z = search rules in
    let r = ref_of c.in-Some.r in
    let e : ref_in z ≡ Some r = ap ref_in (sym q) ∙ sym c.reference_in.ensures ∙ ap (option_map ref_of) c.in-Some.is in
    let view = (c.requires.receiver.view shape z is (ap (slice_get vals) (sym l) ∙ at)).class r e in
    let row : ClassRow = c.index-as_slice-r.result in
    let row_is : slice_get i.classes r.view ≡ Some row = read_at i.classes _ r.view row c.as_slice-2.ensures view c.index-as_slice-r.is in
    let b = c.in-Some-code_of.b in
    let d : code_in row s ≡ Some b = sym c.code_of.ensures ∙ c.in-Some-code_of.is in
    let entry = Turns.entry_is i r.view s b row c.requires.sound row_is d in
    Turns.entry_there i s b entry

pub begin-requires-clause-has : goal.begin-requires-clause-has
begin-requires-clause-has c =
    let i = c.args.image.now in
    let f = frame_of c.args.now.now in
    let s = c.args.s in
    let vals = c.args.now.now.vals.words in
    let shape : Shape = get_or c.as_slice.result.now s c.index-as_slice-s.result in
    let is : slice_get i.methods s ≡ Some shape = number_at i.methods _ s _ c.as_slice.ensures c.requires.args.selector in
    let n = c.len-args.result in
    let l : n ≡ length shape.params = c.len-args.ensures in
    let below = c.requires.args.many shape is in
    let many : n ≤ length vals = omega arith in
    let z = c.peek-z.result in
    let at = c.peek-z.ensures in
    let q : to_z w64 (of_z w64 z) ≡ z = search rules in
    many

pub begin-requires-clause-under : goal.begin-requires-clause-under
begin-requires-clause-under c =
    let i = c.args.image.now in
    let f = frame_of c.args.now.now in
    let s = c.args.s in
    let vals = c.args.now.now.vals.words in
    let shape : Shape = get_or c.as_slice.result.now s c.index-as_slice-s.result in
    let is : slice_get i.methods s ≡ Some shape = number_at i.methods _ s _ c.as_slice.ensures c.requires.args.selector in
    let n = c.len-args.result in
    let l : n ≡ length shape.params = c.len-args.ensures in
    let below = c.requires.args.many shape is in
    let many : n ≤ length vals = omega arith in
    let z = c.peek-z.result in
    let at = c.peek-z.ensures in
    let q : to_z w64 (of_z w64 z) ≡ z = search rules in
    let a = Turns.drop_long n vals many in
    omega arith

pub returns-in-None-code_of-clause-turns : goal.returns-in-None-code_of-clause-turns
returns-in-None-code_of-clause-turns c =
    let i = c.args.image.now in
    let f = frame_of c.args.now.now in
    let s = c.args.s in
    let vals = c.args.now.now.vals.words in
    let shape : Shape = get_or c.as_slice.result.now s c.index-as_slice-s.result in
    let is : slice_get i.methods s ≡ Some shape = number_at i.methods _ s _ c.as_slice.ensures c.requires.args.selector in
    let n = c.len-args.result in
    let l : n ≡ length shape.params = c.len-args.ensures in
    let below = c.requires.args.many shape is in
    let many : n ≤ length vals = omega arith in
    let z = c.peek-z.result in
    let at = c.peek-z.ensures in
    let q : to_z w64 (of_z w64 z) ≡ z = search rules in
    let r = ref_of c.in-Some.r in
    let e : ref_in z ≡ Some r = ap ref_in (sym q) ∙ sym c.reference_in.ensures ∙ ap (option_map ref_of) c.in-Some.is in
    let view = (c.requires.receiver.view shape z is (ap (slice_get vals) (sym l) ∙ at)).class r e in
    let row : ClassRow = c.index-as_slice-r.result in
    let row_is : slice_get i.classes r.view ≡ Some row = read_at i.classes _ r.view row c.as_slice-2.ensures view c.index-as_slice-r.is in
    let d : code_in row s ≡ None = sym c.code_of.ensures ∙ c.in-None-code_of.is in
    λ m h out. Turns.leads i m c.args.frames.now.limit _ _ _ out _ (Turns.call_none i m s shape f h n is l z r row at many e row_is d) refl

pub returns-in-Some-code_of-clause-turns : goal.returns-in-Some-code_of-clause-turns
returns-in-Some-code_of-clause-turns c =
    let i = c.args.image.now in
    let f = frame_of c.args.now.now in
    let s = c.args.s in
    let vals = c.args.now.now.vals.words in
    let shape : Shape = get_or c.as_slice.result.now s c.index-as_slice-s.result in
    let is : slice_get i.methods s ≡ Some shape = number_at i.methods _ s _ c.as_slice.ensures c.requires.args.selector in
    let n = c.len-args.result in
    let l : n ≡ length shape.params = c.len-args.ensures in
    let below = c.requires.args.many shape is in
    let many : n ≤ length vals = omega arith in
    let z = c.peek-z.result in
    let at = c.peek-z.ensures in
    let q : to_z w64 (of_z w64 z) ≡ z = search rules in
    let r = ref_of c.in-Some.r in
    let e : ref_in z ≡ Some r = ap ref_in (sym q) ∙ sym c.reference_in.ensures ∙ ap (option_map ref_of) c.in-Some.is in
    let view = (c.requires.receiver.view shape z is (ap (slice_get vals) (sym l) ∙ at)).class r e in
    let row : ClassRow = c.index-as_slice-r.result in
    let row_is : slice_get i.classes r.view ≡ Some row = read_at i.classes _ r.view row c.as_slice-2.ensures view c.index-as_slice-r.is in
    let b = c.in-Some-code_of.b in
    let d : code_in row s ≡ Some b = sym c.code_of.ensures ∙ c.in-Some-code_of.is in
    let entry = Turns.entry_is i r.view s b row c.requires.sound row_is d in
    let ws = map frame_of c.args.frames.now.waiting in
    let k = c.args.frames.now.limit in
    λ m h out.
    let next : Next Machine Halt = _ in
    let Leads : ℤ → Type 0 = λ y. machine_does (machine_rules i m) k (Enters b (y ∷ taken n vals []) (waits true f (under true y (drop_args n vals))) h) ws out ≡ next in
    Turns.leads i m k _ _ ws out next (Turns.call_some i m s shape f h n is l z r row b at many e row_is d) (subst Leads q (c.begin.ensures.turns m h out))
