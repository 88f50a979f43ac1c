use Rattle.std.proofs.Common.{rules, ◌≡◌, ◌+◌, ◌∷◌, ap, sym, ◌∙◌, subst, List, ℤ, Some, None, slice_get, slice_set, to_z, of_z, w64}
use Rattle.std.specs.Option.{option_map}
use Rattle.jn_code.specs.Machine.{Did, ref_in, slot_in, next}
use Rattle.jn_machine.specs.Acts.{frame_of}
use Rattle.jn_machine.specs.Needs.{OnTop, Below, Reaches}
use Rattle.jn_machine.specs.Views.{ref_of}
use Rattle.jn_machine.proofs.Objects.{read_at, put_none, put_is}
use Rattle.jn_machine.proofs.cells.put.Goals as goal

pub set-requires : goal.set-requires
set-requires c =
    let i = c.args.image.now in
    let P = OnTop (Reaches i c.args.heap.now.words c.args.s) in
    let below : Reaches i c.args.heap.now.words c.args.s c.take.result = subst P c.take.ensures.words (subst (Below (Reaches i c.args.heap.now.words c.args.s)) c.take-z.ensures.words c.requires.below) in
    let r = ref_of c.in-Some.r in
    let row = c.index-as_slice-r.result in
    let q : to_z w64 (of_z w64 c.take.result) ≡ c.take.result = search rules in
    let at : ref_in c.take.result ≡ Some r = ap ref_in (sym q) ∙ sym c.reference_in.ensures ∙ ap (option_map ref_of) c.in-Some.is in
    let is : slice_get i.classes r.view ≡ Some row = read_at i.classes _ r.view row c.as_slice.ensures (below.class r at) c.index-as_slice-r.is in
    let e : slot_in row c.args.s ≡ Some c.in-Some-slot_of.slot = sym c.slot_of.ensures ∙ c.in-Some-slot_of.is in
    below.cell r row c.in-Some-slot_of.slot at is e

pub returns-in-None-slot_of-clause-does : goal.returns-in-None-slot_of-clause-does
returns-in-None-slot_of-clause-does c =
    let i = c.args.image.now in
    let h = c.args.heap.now.words in
    let P = OnTop (Reaches i h c.args.s) in
    let below : Reaches i h c.args.s c.take.result = subst P c.take.ensures.words (subst (Below (Reaches i h c.args.s)) c.take-z.ensures.words c.requires.below) in
    let r = ref_of c.in-Some.r in
    let row = c.index-as_slice-r.result in
    let q : to_z w64 (of_z w64 c.take.result) ≡ c.take.result = search rules in
    let at : ref_in c.take.result ≡ Some r = ap ref_in (sym q) ∙ sym c.reference_in.ensures ∙ ap (option_map ref_of) c.in-Some.is in
    let is : slice_get i.classes r.view ≡ Some row = read_at i.classes _ r.view row c.as_slice.ensures (below.class r at) c.index-as_slice-r.is in
    let e : slot_in row c.args.s ≡ None = sym c.slot_of.ensures ∙ c.in-None-slot_of.is in
    let vals = c.take-z.ensures.words ∙ ap (λ vs. c.take-z.result ∷ vs) c.take.ensures.words in
    put_none i c.args.heap.now.limit c.args.s (frame_of c.args.f.now) h c.take.result r row c.take.new.self.words at is c.take-z.result vals e

pub returns-in-Some-slot_of-clause-does : goal.returns-in-Some-slot_of-clause-does
returns-in-Some-slot_of-clause-does c =
    let i = c.args.image.now in
    let h = c.args.heap.now.words in
    let f = frame_of c.args.f.now in
    let P = OnTop (Reaches i h c.args.s) in
    let below : Reaches i h c.args.s c.take.result = subst P c.take.ensures.words (subst (Below (Reaches i h c.args.s)) c.take-z.ensures.words c.requires.below) in
    let r = ref_of c.in-Some.r in
    let row = c.index-as_slice-r.result in
    let q : to_z w64 (of_z w64 c.take.result) ≡ c.take.result = search rules in
    let at : ref_in c.take.result ≡ Some r = ap ref_in (sym q) ∙ sym c.reference_in.ensures ∙ ap (option_map ref_of) c.in-Some.is in
    let is : slice_get i.classes r.view ≡ Some row = read_at i.classes _ r.view row c.as_slice.ensures (below.class r at) c.index-as_slice-r.is in
    let e : slot_in row c.args.s ≡ Some c.in-Some-slot_of.slot = sym c.slot_of.ensures ∙ c.in-Some-slot_of.is in
    let vals = c.take-z.ensures.words ∙ ap (λ vs. c.take-z.result ∷ vs) c.take.ensures.words in
    let b = below.cell r row c.in-Some-slot_of.slot at is e in
    let on : List ℤ → Did = λ h. next f c.take.new.self.words h in
    let w : to_z w64 (of_z w64 c.take-z.result) ≡ c.take-z.result = search rules in
    let words : c.set.new.self.words ≡ slice_set h (r.cell + 1 + c.in-Some-slot_of.slot) c.take-z.result = c.set.ensures.words ∙ ap (λ (z : ℤ). slice_set h (r.cell + 1 + c.in-Some-slot_of.slot) z) w in
    put_is i c.args.heap.now.limit c.args.s f h c.take.result r row c.take.new.self.words at is c.take-z.result c.in-Some-slot_of.slot vals e b ∙ ap on (sym words)
