use Rattle.std.proofs.Common.{rules, arith, ◌≡◌, ◌<◌, ◌+◌, ◌∷◌, ap, ◌∙◌, length, ℕ, ℤ, pos, Some, slice_get, get_or, replicate, to_z, of_z, w64}
use Rattle.jn_code.specs.declared.image.Code.{Code}
use Rattle.jn_machine.specs.Sizes.{taken, waits_by}
use Rattle.jn_machine.proofs.Objects.{number_at}
use Rattle.jn_machine.proofs.Turns.{begun_with, begun}
use Rattle.jn_machine.proofs.call.begin.Goals as goal

pub enter-requires-clause-short : goal.enter-requires-clause-short
enter-requires-clause-short c =
    let i = c.args.image.now in
    let code : Code = get_or c.as_slice.result.now c.args.b c.index-as_slice-b.result in
    let is : slice_get i.codes c.args.b ≡ Some code = number_at i.codes _ c.args.b _ c.as_slice.ensures c.requires.there in
    let e = c.len-locals.ensures in
    let fits = c.requires.code code is in
    let short = c.requires.short in
    omega arith

pub returns-clause-turns : goal.returns-clause-turns
returns-clause-turns c =
    let i = c.args.image.now in
    let f = c.args.now.now in
    let s = c.args.frames.now in
    let n = c.args.args in
    let code : Code = get_or c.as_slice.result.now c.args.b c.index-as_slice-b.result in
    let is : slice_get i.codes c.args.b ≡ Some code = number_at i.codes _ c.args.b _ c.as_slice.ensures c.requires.there in
    let q : to_z w64 (of_z w64 c.args.z) ≡ c.args.z = search rules in
    let a = c.waiting.ensures in
    let b = c.limit.ensures in
    let d = c.if-waiting-limit.false in
    let room : length s.waiting < s.limit = omega arith in
    let waiting = c.enter.ensures.waiting ∙ ap (λ (z : ℤ). waits_by n z (record f { place = f.place + 1 }) ∷ s.waiting) q in
    let begins = c.enter.ensures.begins ∙ ap (λ (z : ℤ). begun_with c.args.b (z ∷ taken n f.vals.words (replicate c.len-locals.result (pos 0)))) q ∙ ap (λ (k : ℕ). begun_with c.args.b (c.args.z ∷ taken n f.vals.words (replicate k (pos 0)))) c.len-locals.ensures in
    begun i s f c.args.b n c.args.z code c.enter.new.now c.enter.new.self is c.requires.has room waiting begins
