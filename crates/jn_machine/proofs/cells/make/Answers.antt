use Rattle.std.proofs.Common.{rules, arith, ◌≡◌, ◌<◌, ◌≤◌, ◌+◌, ◌∷◌, ◌++◌, ap, sym, ◌∙◌, subst, length, List, ℕ, ℤ, pos, false, Some, slice_get, get_or, replicate, to_z, of_z, w64}
use Rattle.std.specs.Prelude.{nat_eq}
use Rattle.std.proofs.lemmas.Bool.Decides.{nat_tests}
use Rattle.jn_code.specs.declared.image.Group.{Group}
use Rattle.jn_code.specs.Machine.{Did, class_in, ref_word, object_cells, next}
use Rattle.jn_machine.specs.Acts.{frame_of}
use Rattle.jn_machine.specs.Needs.{OnTop, HasGroup}
use Rattle.jn_machine.proofs.Objects.{number_at, numbered_some, full, made}
use Rattle.jn_machine.proofs.cells.make.Goals as goal

pub bounds-as_slice-group : goal.bounds-as_slice-group
bounds-as_slice-group c =
    let i = c.args.image.now in
    let z = c.take.result in
    let top : HasGroup i z = subst (OnTop (HasGroup i)) c.take.ensures.words c.requires.top in
    let q : to_z w64 (of_z w64 z) ≡ z = search rules in
    let k = c.class_in-k.result in
    let kz : k ≡ class_in z = c.class_in-k.ensures.class ∙ ap class_in q in
    let row = get_or c.as_slice.result.now k c.index-as_slice-k.result in
    let b = top.class in
    let is : slice_get i.classes (class_in z) ≡ Some row = ap (slice_get i.classes) (sym kz) ∙ number_at i.classes _ k _ c.as_slice.ensures (omega arith) in
    let d = c.if-group.false in
    let some : nat_eq row.group 65535 ≡ false = grind (arith, nat_tests) in
    let g = top.group row row.group is (numbered_some row.group some) in
    let l : length c.as_slice-2.result.now ≡ length i.groups = ap length c.as_slice-2.ensures in
    omega arith

pub returns-then-limit-used-clause-does : goal.returns-then-limit-used-clause-does
returns-then-limit-used-clause-does c =
    let i = c.args.image.now in
    let h = c.args.heap.now.words in
    let m = c.args.heap.now.limit in
    let z = c.take.result in
    let top : HasGroup i z = subst (OnTop (HasGroup i)) c.take.ensures.words c.requires.top in
    let q : to_z w64 (of_z w64 z) ≡ z = search rules in
    let k = c.class_in-k.result in
    let kz : k ≡ class_in z = c.class_in-k.ensures.class ∙ ap class_in q in
    let row = get_or c.as_slice.result.now k c.index-as_slice-k.result in
    let b = top.class in
    let is : slice_get i.classes (class_in z) ≡ Some row = ap (slice_get i.classes) (sym kz) ∙ number_at i.classes _ k _ c.as_slice.ensures (omega arith) in
    let d = c.if-group.false in
    let some : nat_eq row.group 65535 ≡ false = grind (arith, nat_tests) in
    let below = top.group row row.group is (numbered_some row.group some) in
    let g : Group = get_or c.as_slice-2.result.now row.group c.index-as_slice-group.result in
    let there : slice_get i.groups row.group ≡ Some g = number_at i.groups _ row.group _ c.as_slice-2.ensures below in
    let e = c.len-slots.ensures in
    let u = c.used-used.ensures in
    let n = c.limit.ensures in
    let t = c.if-limit-used.true in
    let l : m < length h + 1 + length g.slots = omega arith in
    full i m (frame_of c.args.f.now) h z row g c.take.new.self.words is there some c.take.ensures.words l

pub returns-clause-does : goal.returns-clause-does
returns-clause-does c =
    let i = c.args.image.now in
    let h = c.args.heap.now.words in
    let m = c.args.heap.now.limit in
    let f = frame_of c.args.f.now in
    let z = c.take.result in
    let top : HasGroup i z = subst (OnTop (HasGroup i)) c.take.ensures.words c.requires.top in
    let q : to_z w64 (of_z w64 z) ≡ z = search rules in
    let k = c.class_in-k.result in
    let kz : k ≡ class_in z = c.class_in-k.ensures.class ∙ ap class_in q in
    let row = get_or c.as_slice.result.now k c.index-as_slice-k.result in
    let b = top.class in
    let is : slice_get i.classes (class_in z) ≡ Some row = ap (slice_get i.classes) (sym kz) ∙ number_at i.classes _ k _ c.as_slice.ensures (omega arith) in
    let d = c.if-group.false in
    let some : nat_eq row.group 65535 ≡ false = grind (arith, nat_tests) in
    let below = top.group row row.group is (numbered_some row.group some) in
    let g : Group = get_or c.as_slice-2.result.now row.group c.index-as_slice-group.result in
    let there : slice_get i.groups row.group ≡ Some g = number_at i.groups _ row.group _ c.as_slice-2.ensures below in
    let e = c.len-slots.ensures in
    let u = c.used-used.ensures in
    let n = c.limit.ensures in
    let t = c.if-limit-used.false in
    let l : length h + 1 + length g.slots ≤ m = omega arith in
    let cells = object_cells row.group g in
    let a : to_z w64 (of_z w64 c.reference_word.result) ≡ c.reference_word.result = search rules in
    let word : c.reference_word.result ≡ ref_word (class_in z) (length h) = c.reference_word.ensures ∙ ap (λ (k : ℕ). ref_word k c.used-used.result) kz ∙ ap (λ (n : ℕ). ref_word (class_in z) n) u.used in
    let words : c.put.new.self.words ≡ ref_word (class_in z) (length h) ∷ c.take.new.self.words = c.put.ensures.words ∙ ap (λ (y : ℤ). y ∷ c.take.new.self.words) (a ∙ word) in
    let number : to_z w64 row.group ≡ pos row.group = search rules in
    let heap : c.add.new.self.words ≡ h ++ cells = c.add.ensures.words ∙ ap (λ (y : ℤ). h ++ y ∷ replicate c.len-slots.result (pos 0)) number ∙ ap (λ (n : ℕ). h ++ pos row.group ∷ replicate n (pos 0)) e in
    let with_heap : List ℤ → Did = λ k. next f c.put.new.self.words k in
    let with_words : List ℤ → Did = λ vs. next f vs (h ++ cells) in
    made i m f h z row g c.take.new.self.words is there some c.take.ensures.words l ∙ ap with_words (sym words) ∙ ap with_heap (sym heap)
