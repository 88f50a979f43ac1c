use Rattle.std.proofs.Common.{get_or, refl}
use Rattle.jn_reach.proofs.Searches.{not_when}
use Rattle.jn_share.proofs.Covers.{path_there, uncovered_at, covers_more, covers_all}
use Rattle.jn_share.proofs.parting.covers_of.Goals as goal
use Rattle.jn_share.proofs.parting.covers_of.Goals.{else-class_in-via-then-class_in+else-not-has_twin, else-class_in-via-else-class_in}

pub returns-then-not-has_twin-clause-no : goal.returns-then-not-has_twin-clause-no
returns-then-not-has_twin-clause-no c = λ _ p V W Y f groups m n e k.
    let known = c.args.t.now.known.items in
    let u = get_or c.args.among.now c.loop-u.u-index 0 in
    let U = path_there p c.args.t.now f u (c.class_in.ensures.within c.if-class_in.true) in
    uncovered_at p known c.args.parts.now u U.0 V W c.args.ty.now ((c.class_in.ensures.is p V U.0 f m U.1).0 c.if-class_in.true)
    (not_when c.if-not-has_twin.true (c.has_twin.ensures p U.0 W Y f groups U.1 n e k))

pub loop-u-preserved : goal.loop-u-preserved
loop-u-preserved c = λ p V W Y f groups m n e k.
    let known = c.args.t.now.known.items in
    let u = get_or c.args.among.now c.loop-u.u-index 0 in
    covers_more p known c.args.parts.now c.args.among.now c.loop-u.u-index u V W c.args.ty.now c.loop-u-test.true refl
    (λ U h a. elim c.else-class_in.branch [
      | else-class_in-via-then-class_in+else-not-has_twin w ↦ (w.has_twin.ensures p U W Y f groups h n e k).0 w.if-not-has_twin.false
      | else-class_in-via-else-class_in w ↦ absurd (not_when w.if-class_in.false (c.class_in.ensures.is p V U f m h) a)
    ])
    (c.loop-u.invariant p V W Y f groups m n e k)

pub returns-clause-yes : goal.returns-clause-yes
returns-clause-yes c = λ _ p V W Y f groups m n e k.
    covers_all p c.args.t.now.known.items c.args.parts.now c.args.among.now c.loop-u.u-index V W c.args.ty.now c.loop-u-test.false
    (c.loop-u.invariant p V W Y f groups m n e k)
