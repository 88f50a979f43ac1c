use Rattle.jn_reach.proofs.Searches.{iff_true, iff_false, not_when}
use Rattle.jn_names.proofs.Numbered.{heir_none, super_none, itself_below}
use Rattle.jn_names.proofs.bound.Bound.is_below.Goals as goal

pub returns-then-is : goal.returns-then-is
returns-then-is c = λ p f. iff_true (itself_below p c.args.self.now c.args.other.now (c.is.ensures.0 c.if-is.true))

pub returns-in-None : goal.returns-in-None
returns-in-None c = λ p f. iff_false
    (heir_none p c.args.t.now c.args.self.now c.args.other.now f
    (not_when c.if-is.false c.is.ensures) c.in-None.ensures.none)

pub returns-in-None-number : goal.returns-in-None-number
returns-in-None-number c = λ p f. iff_false
    (super_none p c.args.t.now c.args.self.now c.args.other.now f
    (not_when c.if-is.false c.is.ensures) c.in-None-number.ensures.none)

pub returns-in-Some-number : goal.returns-in-Some-number
returns-in-Some-number c =
    λ p f. c.sup.ensures p c.args.self.now c.args.other.now f.table c.in-Some.ensures.some c.in-Some-number.ensures.some
