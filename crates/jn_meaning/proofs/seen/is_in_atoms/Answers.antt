use Rattle.jn_reach.proofs.Searches.{iff_true, not_when}
use Rattle.jn_share.proofs.Inside.{in_all, in_more, not_in_all}
use Rattle.jn_meaning.specs.Seen.{views_of}
use Rattle.jn_meaning.proofs.seen.is_in_atoms.Goals as goal

pub returns-then-not-branch : goal.returns-then-not-branch
returns-then-not-branch c = λ p U f n.
    not_in_all p (views_of c.args.t.now.known.items c.args.seen.now) c.args.xs.now U c.loop-x.x-index c.x-item.result c.loop-x-test.true c.x-item.is
    (not_when c.if-not-branch.true (c.in_ok-is_in_atom.ensures p U f n))

pub loop-x-preserved : goal.loop-x-preserved
loop-x-preserved c = λ p U f n.
    in_more p (views_of c.args.t.now.known.items c.args.seen.now) c.args.xs.now U c.loop-x.x-index c.x-item.result c.loop-x-test.true c.x-item.is
    ((c.in_ok-is_in_atom.ensures p U f n).0 c.if-not-branch.false) (c.loop-x.invariant p U f n)

pub returns : goal.returns
returns c = λ p U f n.
    iff_true (in_all p (views_of c.args.t.now.known.items c.args.seen.now) c.args.xs.now U c.loop-x.x-index c.loop-x-test.false (c.loop-x.invariant p U f n))
