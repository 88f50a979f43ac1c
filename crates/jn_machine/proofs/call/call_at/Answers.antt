use Rattle.std.proofs.Common.{rules, arith, refl, ◌≡◌, ◌<◌, ◌≤◌, ◌∷◌, [], ap, sym, ◌∙◌, subst, length, List, ℤ, true, Some, None, not, slice_get, get_or, map, drop, to_z, of_z, w64}
use Rattle.jn_steps.specs.Runs.{Next}
use Rattle.jn_steps.specs.Steps.{Enters}
use Rattle.jn_steps.specs.Frames.{machine_does}
use Rattle.jn_code.specs.declared.image.Shape.{Shape}
use Rattle.jn_code.specs.declared.image.ClassRow.{ClassRow}
use Rattle.jn_code.specs.Machine.{Halt, Machine, ref_in, class_in, code_in, rules as machine_rules, waits}
use Rattle.jn_machine.specs.Acts.{frame_of}
use Rattle.jn_machine.specs.Needs.{OnTop, IsClass}
use Rattle.jn_machine.specs.Sizes.{taken, drop_args, under}
use Rattle.jn_machine.specs.Calls.{HasArgs}
use Rattle.jn_machine.proofs.Objects.{read_at, number_at}
use Rattle.jn_machine.proofs.Turns
use Rattle.jn_machine.proofs.call.call_at.Goals as goal

pub returns-then-is_none-clause-turns : goal.returns-then-is_none-clause-turns
returns-then-is_none-clause-turns c =
    let i = c.args.image.now in
    let f = frame_of c.args.now.now in
    let s = c.args.s in
    let top = c.take.ensures.words in
    let k = c.take.result in
    let vals = c.take.new.self.words in
    let has : HasArgs i s 1 vals = subst (λ (zs : List ℤ). HasArgs i s 1 (drop 1 zs)) top c.requires.args in
    let shape : Shape = get_or c.as_slice.result.now s c.index-as_slice-s.result in
    let is : slice_get i.methods s ≡ Some shape = number_at i.methods _ s _ c.as_slice.ensures has.selector in
    let n = c.len-args.result in
    let l : n ≡ length shape.params = c.len-args.ensures in
    let below = has.many shape is in
    let many : n ≤ length vals = omega arith in
    let z = c.peek-z.result in
    let at = c.peek-z.ensures in
    let q : to_z w64 (of_z w64 z) ≡ z = search rules in
    let e : ref_in z ≡ None = Turns.none_seen c.reference_in.result (ref_in z) (c.reference_in.ensures ∙ ap ref_in q) (c.is_none.ensures ∙ ap not c.if-is_none.true) in
    λ m h out. Turns.leads i m c.args.frames.now.limit _ _ _ out _ (Turns.call_at_null i m s shape f h n is l k vals top z at many e) refl

pub begin-requires-clause-code : goal.begin-requires-clause-code
begin-requires-clause-code c =
    let i = c.args.image.now in
    let f = frame_of c.args.now.now in
    let s = c.args.s in
    let top = c.take.ensures.words in
    let k = c.take.result in
    let vals = c.take.new.self.words in
    let has : HasArgs i s 1 vals = subst (λ (zs : List ℤ). HasArgs i s 1 (drop 1 zs)) top c.requires.args in
    let shape : Shape = get_or c.as_slice.result.now s c.index-as_slice-s.result in
    let is : slice_get i.methods s ≡ Some shape = number_at i.methods _ s _ c.as_slice.ensures has.selector in
    let n = c.len-args.result in
    let l : n ≡ length shape.params = c.len-args.ensures in
    let below = has.many shape is in
    let many : n ≤ length vals = omega arith in
    let z = c.peek-z.result in
    let at = c.peek-z.ensures in
    let q : to_z w64 (of_z w64 z) ≡ z = search rules in
    let seen = Turns.some_seen c.reference_in.result (ref_in z) (c.reference_in.ensures ∙ ap ref_in q) (c.is_none.ensures ∙ ap not c.if-is_none.false) in
    let qk : to_z w64 (of_z w64 k) ≡ k = search rules in
    let kz : c.class_in-k.result ≡ class_in k = c.class_in-k.ensures.class ∙ ap class_in qk in
    let class : class_in k < length i.classes = subst (OnTop (IsClass i)) top c.requires.class in
    let row : ClassRow = c.index-as_slice-k.result in
    let row_is : slice_get i.classes (class_in k) ≡ Some row = ap (slice_get i.classes) (sym kz) ∙ read_at i.classes _ c.class_in-k.result row c.as_slice-2.ensures (omega arith) c.index-as_slice-k.is in
    let b = c.in-Some.b in
    let d : code_in row s ≡ Some b = sym c.code_of.ensures ∙ c.in-Some.is in
    let entry = Turns.entry_is i (class_in k) s b row c.requires.sound row_is d in
    λ code g. let a = Turns.entry_fits i c.args.frames.now s b shape c.requires.roomy is entry code g in omega arith

pub begin-requires-clause-there : goal.begin-requires-clause-there
begin-requires-clause-there c =
    let i = c.args.image.now in
    let f = frame_of c.args.now.now in
    let s = c.args.s in
    let top = c.take.ensures.words in
    let k = c.take.result in
    let vals = c.take.new.self.words in
    let has : HasArgs i s 1 vals = subst (λ (zs : List ℤ). HasArgs i s 1 (drop 1 zs)) top c.requires.args in
    let shape : Shape = get_or c.as_slice.result.now s c.index-as_slice-s.result in
    let is : slice_get i.methods s ≡ Some shape = number_at i.methods _ s _ c.as_slice.ensures has.selector in
    let n = c.len-args.result in
    let l : n ≡ length shape.params = c.len-args.ensures in
    let below = has.many shape is in
    let many : n ≤ length vals = omega arith in
    let z = c.peek-z.result in
    let at = c.peek-z.ensures in
    let q : to_z w64 (of_z w64 z) ≡ z = search rules in
    let seen = Turns.some_seen c.reference_in.result (ref_in z) (c.reference_in.ensures ∙ ap ref_in q) (c.is_none.ensures ∙ ap not c.if-is_none.false) in
    let qk : to_z w64 (of_z w64 k) ≡ k = search rules in
    let kz : c.class_in-k.result ≡ class_in k = c.class_in-k.ensures.class ∙ ap class_in qk in
    let class : class_in k < length i.classes = subst (OnTop (IsClass i)) top c.requires.class in
    let row : ClassRow = c.index-as_slice-k.result in
    let row_is : slice_get i.classes (class_in k) ≡ Some row = ap (slice_get i.classes) (sym kz) ∙ read_at i.classes _ c.class_in-k.result row c.as_slice-2.ensures (omega arith) c.index-as_slice-k.is in
    let b = c.in-Some.b in
    let d : code_in row s ≡ Some b = sym c.code_of.ensures ∙ c.in-Some.is in
    let entry = Turns.entry_is i (class_in k) s b row c.requires.sound row_is d in
    Turns.entry_there i s b entry

pub begin-requires-clause-has : goal.begin-requires-clause-has
begin-requires-clause-has c =
    let i = c.args.image.now in
    let f = frame_of c.args.now.now in
    let s = c.args.s in
    let top = c.take.ensures.words in
    let k = c.take.result in
    let vals = c.take.new.self.words in
    let has : HasArgs i s 1 vals = subst (λ (zs : List ℤ). HasArgs i s 1 (drop 1 zs)) top c.requires.args in
    let shape : Shape = get_or c.as_slice.result.now s c.index-as_slice-s.result in
    let is : slice_get i.methods s ≡ Some shape = number_at i.methods _ s _ c.as_slice.ensures has.selector in
    let n = c.len-args.result in
    let l : n ≡ length shape.params = c.len-args.ensures in
    let below = has.many shape is in
    let many : n ≤ length vals = omega arith in
    let z = c.peek-z.result in
    let at = c.peek-z.ensures in
    let q : to_z w64 (of_z w64 z) ≡ z = search rules in
    many

pub begin-requires-clause-under : goal.begin-requires-clause-under
begin-requires-clause-under c =
    let i = c.args.image.now in
    let f = frame_of c.args.now.now in
    let s = c.args.s in
    let top = c.take.ensures.words in
    let k = c.take.result in
    let vals = c.take.new.self.words in
    let has : HasArgs i s 1 vals = subst (λ (zs : List ℤ). HasArgs i s 1 (drop 1 zs)) top c.requires.args in
    let shape : Shape = get_or c.as_slice.result.now s c.index-as_slice-s.result in
    let is : slice_get i.methods s ≡ Some shape = number_at i.methods _ s _ c.as_slice.ensures has.selector in
    let n = c.len-args.result in
    let l : n ≡ length shape.params = c.len-args.ensures in
    let below = has.many shape is in
    let many : n ≤ length vals = omega arith in
    let z = c.peek-z.result in
    let at = c.peek-z.ensures in
    let q : to_z w64 (of_z w64 z) ≡ z = search rules in
    let a = Turns.drop_long n vals many in
    omega arith

pub returns-in-None-clause-turns : goal.returns-in-None-clause-turns
returns-in-None-clause-turns c =
    let i = c.args.image.now in
    let f = frame_of c.args.now.now in
    let s = c.args.s in
    let top = c.take.ensures.words in
    let k = c.take.result in
    let vals = c.take.new.self.words in
    let has : HasArgs i s 1 vals = subst (λ (zs : List ℤ). HasArgs i s 1 (drop 1 zs)) top c.requires.args in
    let shape : Shape = get_or c.as_slice.result.now s c.index-as_slice-s.result in
    let is : slice_get i.methods s ≡ Some shape = number_at i.methods _ s _ c.as_slice.ensures has.selector in
    let n = c.len-args.result in
    let l : n ≡ length shape.params = c.len-args.ensures in
    let below = has.many shape is in
    let many : n ≤ length vals = omega arith in
    let z = c.peek-z.result in
    let at = c.peek-z.ensures in
    let q : to_z w64 (of_z w64 z) ≡ z = search rules in
    let seen = Turns.some_seen c.reference_in.result (ref_in z) (c.reference_in.ensures ∙ ap ref_in q) (c.is_none.ensures ∙ ap not c.if-is_none.false) in
    let qk : to_z w64 (of_z w64 k) ≡ k = search rules in
    let kz : c.class_in-k.result ≡ class_in k = c.class_in-k.ensures.class ∙ ap class_in qk in
    let class : class_in k < length i.classes = subst (OnTop (IsClass i)) top c.requires.class in
    let row : ClassRow = c.index-as_slice-k.result in
    let row_is : slice_get i.classes (class_in k) ≡ Some row = ap (slice_get i.classes) (sym kz) ∙ read_at i.classes _ c.class_in-k.result row c.as_slice-2.ensures (omega arith) c.index-as_slice-k.is in
    let d : code_in row s ≡ None = sym c.code_of.ensures ∙ c.in-None.is in
    λ m h out. Turns.leads i m c.args.frames.now.limit _ _ _ out _ (Turns.call_at_none i m s shape f h n is l k vals top z seen.0 row at many seen.1 row_is d) refl

pub returns-in-Some-clause-turns : goal.returns-in-Some-clause-turns
returns-in-Some-clause-turns c =
    let i = c.args.image.now in
    let f = frame_of c.args.now.now in
    let s = c.args.s in
    let top = c.take.ensures.words in
    let k = c.take.result in
    let vals = c.take.new.self.words in
    let has : HasArgs i s 1 vals = subst (λ (zs : List ℤ). HasArgs i s 1 (drop 1 zs)) top c.requires.args in
    let shape : Shape = get_or c.as_slice.result.now s c.index-as_slice-s.result in
    let is : slice_get i.methods s ≡ Some shape = number_at i.methods _ s _ c.as_slice.ensures has.selector in
    let n = c.len-args.result in
    let l : n ≡ length shape.params = c.len-args.ensures in
    let below = has.many shape is in
    let many : n ≤ length vals = omega arith in
    let z = c.peek-z.result in
    let at = c.peek-z.ensures in
    let q : to_z w64 (of_z w64 z) ≡ z = search rules in
    let seen = Turns.some_seen c.reference_in.result (ref_in z) (c.reference_in.ensures ∙ ap ref_in q) (c.is_none.ensures ∙ ap not c.if-is_none.false) in
    let qk : to_z w64 (of_z w64 k) ≡ k = search rules in
    let kz : c.class_in-k.result ≡ class_in k = c.class_in-k.ensures.class ∙ ap class_in qk in
    let class : class_in k < length i.classes = subst (OnTop (IsClass i)) top c.requires.class in
    let row : ClassRow = c.index-as_slice-k.result in
    let row_is : slice_get i.classes (class_in k) ≡ Some row = ap (slice_get i.classes) (sym kz) ∙ read_at i.classes _ c.class_in-k.result row c.as_slice-2.ensures (omega arith) c.index-as_slice-k.is in
    let b = c.in-Some.b in
    let d : code_in row s ≡ Some b = sym c.code_of.ensures ∙ c.in-Some.is in
    let entry = Turns.entry_is i (class_in k) s b row c.requires.sound row_is d in
    let ws = map frame_of c.args.frames.now.waiting in
    let most = c.args.frames.now.limit in
    λ m h out.
    let next : Next Machine Halt = _ in
    let Leads : ℤ → Type 0 = λ y. machine_does (machine_rules i m) most (Enters b (y ∷ taken n vals []) (waits true f (under true y (drop_args n vals))) h) ws out ≡ next in
    Turns.leads i m most _ _ ws out next (Turns.call_at_some i m s shape f h n is l k vals top z seen.0 row b at many seen.1 row_is d) (subst Leads q (c.begin.ensures.turns m h out))
