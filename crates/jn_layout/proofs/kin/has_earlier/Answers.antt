use Rattle.std.proofs.Common.{get_or}
use Rattle.std.proofs.lemmas.List.Elements.{Contains-get_or}
use Rattle.jn_reach.proofs.Searches.{iff_true, iff_false, not_when}
use Rattle.jn_share.proofs.FieldEntries.{any_default}
use Rattle.jn_share.proofs.Walk.{take_one}
use Rattle.jn_layout.proofs.KinProof.{earlier_found, earlier_none, earlier_more, earlier_all}
use Rattle.jn_layout.proofs.kin.has_earlier.Goals as goal

pub loop-j-init : goal.loop-j-init
loop-j-init c = λ p f. earlier_none p c.args.t.now.known.items c.args.k

pub loop-j-preserved : goal.loop-j-preserved
loop-j-preserved c = λ p f.
    let xs = c.args.numbers.now in
    let i = c.loop-j.j-index in
    let j = get_or xs i 0 in
    earlier_more p c.args.t.now.known.items _ _ j c.args.k (take_one xs i j c.loop-j-test.true (any_default xs i 0 j c.loop-j-test.true))
    (λ R a h. not_when c.if-is_earlier.false (c.is_earlier.ensures.is p R f a) h) (c.loop-j.invariant p f)

pub returns-then-is_earlier : goal.returns-then-is_earlier
returns-then-is_earlier c = λ p f.
    let xs = c.args.numbers.now in
    let i = c.loop-j.j-index in
    let j = get_or xs i 0 in
    iff_true (earlier_found p c.args.t.now f xs j c.args.k (Contains-get_or xs i 0 c.loop-j-test.true) (c.is_earlier.ensures.within c.if-is_earlier.true)
    (λ R a. (c.is_earlier.ensures.is p R f a).0 c.if-is_earlier.true))

pub returns : goal.returns
returns c = λ p f. iff_false (earlier_all p c.args.t.now.known.items c.args.numbers.now c.loop-j.j-index c.args.k c.loop-j-test.false (c.loop-j.invariant p f))
