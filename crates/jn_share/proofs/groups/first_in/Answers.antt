use Rattle.std.proofs.Common.{ℕ, get_or}
use Rattle.jn_reach.proofs.Searches.{none_all}
use Rattle.jn_table.specs.declared.class.ClassId.{ClassId}
use Rattle.jn_share.specs.Groups.{HasClass}
use Rattle.jn_share.proofs.FieldEntries.{any_default}
use Rattle.jn_share.proofs.Reading.{none_more_at}
use Rattle.jn_share.proofs.groups.first_in.Goals as goal

pub loop-k-preserved : goal.loop-k-preserved
loop-k-preserved c =
    none_more_at (λ (k : ℕ). (w : ClassId) × HasClass c.args.rows.now k c.args.family w) c.args.numbers.now c.loop-k.k-index 0 c.loop-k-test.true
    (λ h. c.in_default.ensures.none h.0 h.1) c.loop-k.invariant

pub returns-in-Some-clause-some : goal.returns-in-Some-clause-some
returns-in-Some-clause-some c =
    let numbers = c.args.numbers.now in
    let k = get_or numbers c.loop-k.k-index 0 in
    (c.loop-k.k-index, k, c.loop-k-test.true, any_default numbers c.loop-k.k-index k 0 c.loop-k-test.true, c.in-Some.ensures.some)

pub returns-clause-none : goal.returns-clause-none
returns-clause-none c = λ w h.
    none_all (λ (k : ℕ). (v : ClassId) × HasClass c.args.rows.now k c.args.family v) c.args.numbers.now c.loop-k.k-index c.loop-k-test.false c.loop-k.invariant
    (h.0, h.1, h.2, h.3, (w, h.4))
