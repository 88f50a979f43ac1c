use Rattle.jn_reach.proofs.Searches.{not_when}
use Rattle.jn_layout.proofs.PartProof.{package_group, class_group, class_no_group}
use Rattle.jn_layout.proofs.parts.group_of.Goals as goal

pub returns-then-not-is_class : goal.returns-then-not-is_class
returns-then-not-is_class c = λ p g f groups are n R lists firsts few a. package_group p n R (not_when c.if-not-is_class.true (c.is_class.ensures.is p R f a))

pub returns-in-None : goal.returns-in-None
returns-in-None c = λ p g f groups are n R lists firsts few a.
    absurd (c.in-None.ensures.none p g f groups are R a ((c.is_class.ensures.is p R f a).0 c.if-not-is_class.false))

pub returns-in-None-place_of : goal.returns-in-None-place_of
returns-in-None-place_of c = λ p g f groups are n R lists firsts few a.
    let class = (c.is_class.ensures.is p R f a).0 c.if-not-is_class.false in
    absurd (class_no_group p c.args.t.now f c.args.firsts.now lists n firsts R c.in-Some.first (c.in-Some.ensures.some p g f groups are R a class) c.in-None-place_of.ensures.none)

pub returns-in-Some-place_of : goal.returns-in-Some-place_of
returns-in-Some-place_of c = λ p g f groups are n R lists firsts few a.
    let class = (c.is_class.ensures.is p R f a).0 c.if-not-is_class.false in
    class_group p c.args.t.now f c.args.firsts.now lists n firsts R class c.args.k a c.in-Some.first c.in-Some-place_of.group c.two_bytes.result
    (c.in-Some.ensures.some p g f groups are R a class) c.in-Some-place_of.ensures.some few c.two_bytes.ensures
