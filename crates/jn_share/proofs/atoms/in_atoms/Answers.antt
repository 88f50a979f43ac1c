use Rattle.jn_reach.proofs.Searches.{iff_true, not_when}
use Rattle.jn_share.proofs.Inside.{in_all, in_more, not_in_all}
use Rattle.jn_share.proofs.atoms.in_atoms.Goals as goal

pub returns-then-not-in_atom : goal.returns-then-not-in_atom
returns-then-not-in_atom c = λ p v U f w n.
    not_in_all p v c.args.xs.now U c.loop-x.x-index c.x-item.result c.loop-x-test.true c.x-item.is (not_when c.if-not-in_atom.true (c.in_atom.ensures p v U f w n))

pub loop-x-preserved : goal.loop-x-preserved
loop-x-preserved c = λ p v U f w n.
    in_more p v c.args.xs.now U c.loop-x.x-index c.x-item.result c.loop-x-test.true c.x-item.is ((c.in_atom.ensures p v U f w n).0 c.if-not-in_atom.false)
    (c.loop-x.invariant p v U f w n)

pub returns : goal.returns
returns c = λ p v U f w n. iff_true (in_all p v c.args.xs.now U c.loop-x.x-index c.loop-x-test.false (c.loop-x.invariant p v U f w n))
