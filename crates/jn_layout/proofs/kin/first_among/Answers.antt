use Rattle.std.proofs.Common.{get_or, subst, List, ℕ, Contains, sym}
use Rattle.std.proofs.lemmas.List.{take_all}
use Rattle.jn_reach.proofs.Searches.{not_when}
use Rattle.jn_share.proofs.FieldEntries.{any_default}
use Rattle.jn_share.proofs.Walk.{take_one}
use Rattle.jn_layout.specs.Kin.{FirstAt}
use Rattle.jn_layout.proofs.KinProof.{none_of}
use Rattle.jn_layout.proofs.kin.first_among.Goals as goal

pub loop-f-preserved : goal.loop-f-preserved
loop-f-preserved c = λ p g f groups are.
    let xs = c.args.numbers.now in
    let i = c.loop-f.f-index in
    let j = get_or xs i 0 in
    none_of (FirstAt p c.args.t.now.known.items) _ _ j (take_one xs i j c.loop-f-test.true (any_default xs i 0 j c.loop-f-test.true))
    (λ h. not_when c.if-is_first.false (c.is_first.ensures p g f groups are) h) (c.loop-f.invariant p g f groups are)

pub returns-clause-none : goal.returns-clause-none
returns-clause-none c = λ p g f groups are k h.
    c.loop-f.invariant p g f groups are k (subst (λ (xs : List ℕ). Contains xs k) (sym (take_all c.loop-f.f-index c.args.numbers.now c.loop-f-test.false)) h)
