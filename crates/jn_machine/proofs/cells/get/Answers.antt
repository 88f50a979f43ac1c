use Rattle.std.proofs.Common.{rules, ◌≡◌, ◌∷◌, ap, sym, ◌∙◌, subst, List, ℤ, Some, slice_get, get_or, to_z, of_z, w64}
use Rattle.std.specs.Option.{option_map}
use Rattle.jn_code.specs.Machine.{Did, ref_in, slot_in, field_value, next}
use Rattle.jn_machine.specs.Acts.{frame_of}
use Rattle.jn_machine.specs.Needs.{OnTop, Reaches}
use Rattle.jn_machine.specs.Views.{ref_of}
use Rattle.jn_machine.proofs.Objects.{read_at, number_at, got}
use Rattle.jn_machine.proofs.cells.get.Goals as goal

pub get-z-requires : goal.get-z-requires
get-z-requires c =
    let i = c.args.image.now in
    let top : Reaches i c.args.heap.now.words c.args.s c.take.result = subst (OnTop (Reaches i c.args.heap.now.words c.args.s)) c.take.ensures.words c.requires.top in
    let r = ref_of c.in-Some.r in
    let row = c.index-as_slice-r.result in
    let q : to_z w64 (of_z w64 c.take.result) ≡ c.take.result = search rules in
    let at : ref_in c.take.result ≡ Some r = ap ref_in (sym q) ∙ sym c.reference_in.ensures ∙ ap (option_map ref_of) c.in-Some.is in
    let is : slice_get i.classes r.view ≡ Some row = read_at i.classes _ r.view row c.as_slice.ensures (top.class r at) c.index-as_slice-r.is in
    let e : slot_in row c.args.s ≡ Some c.in-Some-slot_of.slot = sym c.slot_of.ensures ∙ c.in-Some-slot_of.is in
    top.cell r row c.in-Some-slot_of.slot at is e

pub returns-in-None-field_value-clause-does : goal.returns-in-None-field_value-clause-does
returns-in-None-field_value-clause-does c =
    let i = c.args.image.now in
    let h = c.args.heap.now.words in
    let top : Reaches i h c.args.s c.take.result = subst (OnTop (Reaches i h c.args.s)) c.take.ensures.words c.requires.top in
    let r = ref_of c.in-Some.r in
    let row = c.index-as_slice-r.result in
    let q : to_z w64 (of_z w64 c.take.result) ≡ c.take.result = search rules in
    let at : ref_in c.take.result ≡ Some r = ap ref_in (sym q) ∙ sym c.reference_in.ensures ∙ ap (option_map ref_of) c.in-Some.is in
    let is : slice_get i.classes r.view ≡ Some row = read_at i.classes _ r.view row c.as_slice.ensures (top.class r at) c.index-as_slice-r.is in
    let e : slot_in row c.args.s ≡ Some c.in-Some-slot_of.slot = sym c.slot_of.ensures ∙ c.in-Some-slot_of.is in
    let k = number_at i.fields _ c.args.s 0 c.as_slice-2.ensures c.requires.field in
    let got_word : to_z w64 (of_z w64 c.get-z.result) ≡ c.get-z.result = search rules in
    let v = ap (λ (z : ℤ). field_value i (get_or c.as_slice-2.result.now c.args.s 0) row.family z) (sym got_word) ∙ sym c.field_value.ensures ∙ c.in-None-field_value.is in
    got i c.args.heap.now.limit c.args.s (frame_of c.args.f.now) h c.take.result r row c.take.new.self.words at is c.in-Some-slot_of.slot _ _ _ c.take.ensures.words e c.get-z.ensures k v

pub returns-in-Some-field_value-clause-does : goal.returns-in-Some-field_value-clause-does
returns-in-Some-field_value-clause-does c =
    let i = c.args.image.now in
    let h = c.args.heap.now.words in
    let f = frame_of c.args.f.now in
    let top : Reaches i h c.args.s c.take.result = subst (OnTop (Reaches i h c.args.s)) c.take.ensures.words c.requires.top in
    let r = ref_of c.in-Some.r in
    let row = c.index-as_slice-r.result in
    let q : to_z w64 (of_z w64 c.take.result) ≡ c.take.result = search rules in
    let at : ref_in c.take.result ≡ Some r = ap ref_in (sym q) ∙ sym c.reference_in.ensures ∙ ap (option_map ref_of) c.in-Some.is in
    let is : slice_get i.classes r.view ≡ Some row = read_at i.classes _ r.view row c.as_slice.ensures (top.class r at) c.index-as_slice-r.is in
    let e : slot_in row c.args.s ≡ Some c.in-Some-slot_of.slot = sym c.slot_of.ensures ∙ c.in-Some-slot_of.is in
    let k = number_at i.fields _ c.args.s 0 c.as_slice-2.ensures c.requires.field in
    let got_word : to_z w64 (of_z w64 c.get-z.result) ≡ c.get-z.result = search rules in
    let v = ap (λ (z : ℤ). field_value i (get_or c.as_slice-2.result.now c.args.s 0) row.family z) (sym got_word) ∙ sym c.field_value.ensures ∙ c.in-Some-field_value.is in
    let w : to_z w64 (of_z w64 c.in-Some-field_value.w) ≡ c.in-Some-field_value.w = search rules in
    let words : c.put.new.self.words ≡ c.in-Some-field_value.w ∷ c.take.new.self.words = c.put.ensures.words ∙ ap (λ (z : ℤ). z ∷ c.take.new.self.words) w in
    let on : List ℤ → Did = λ vs. next f vs h in
    got i c.args.heap.now.limit c.args.s f h c.take.result r row c.take.new.self.words at is c.in-Some-slot_of.slot _ _ _ c.take.ensures.words e c.get-z.ensures k v ∙ ap on (sym words)
