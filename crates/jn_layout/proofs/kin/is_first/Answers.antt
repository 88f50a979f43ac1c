use Rattle.jn_reach.proofs.Searches.{iff_false, not_when}
use Rattle.jn_layout.proofs.KinProof.{path_there, first_at, none_earlier, turned_first}
use Rattle.jn_layout.proofs.kin.is_first.Goals as goal

pub returns-then-not-is_class : goal.returns-then-not-is_class
returns-then-not-is_class c = λ p g f groups are. iff_false (λ x. not_when c.if-not-is_class.true (c.is_class.ensures.is p x.class f x.at) x.first.holds.one)

pub returns : goal.returns
returns c = λ p g f groups are.
    let V = path_there p c.args.t.now f c.args.k (c.is_class.ensures.within c.if-not-is_class.false) in
    let class = (c.is_class.ensures.is p V.0 f V.1).0 c.if-not-is_class.false in
    turned_first (c.has_earlier.ensures p f)
    (λ none. first_at p c.args.t.now g f groups c.args.kin.now are c.args.k V.0 V.1 class c.related_to.result.now c.related_to.ensures none)
    (λ x. none_earlier p c.args.t.now g f groups c.args.kin.now are c.args.k x c.related_to.result.now c.related_to.ensures)
